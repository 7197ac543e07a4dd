pub mod Faultless
pub mod Exact
pub mod Rows
