pub mod Parts
pub mod Sums
pub mod Strangers
