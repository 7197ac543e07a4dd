pub mod Opening
pub mod First
pub mod Found
