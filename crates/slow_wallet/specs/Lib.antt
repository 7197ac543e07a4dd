pub mod Slow
pub mod Choices
