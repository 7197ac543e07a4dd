pub mod Beginnings
pub mod Learned
