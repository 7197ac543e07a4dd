pub mod Meets
pub mod Books
pub mod Strangers
pub mod Brokers
pub mod Parts
pub mod Sums
pub mod Sales
