pub mod Opening
pub mod Course
pub mod Session
pub mod Operations
pub mod Play
