pub mod Lines
pub mod Resold
pub mod Loops
