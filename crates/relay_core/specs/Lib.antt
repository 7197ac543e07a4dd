pub mod Text
pub mod Sums
