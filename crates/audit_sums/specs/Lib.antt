pub mod Rows
pub mod Learned
