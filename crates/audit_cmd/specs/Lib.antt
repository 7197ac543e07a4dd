pub mod Notes
pub mod OneBook
pub mod Reading
pub mod Books
pub mod Places
pub mod Loops
pub mod Chains
pub mod Reports
