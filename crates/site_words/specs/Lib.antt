pub mod Ranges
pub mod Words
pub mod Views
pub mod Commands
