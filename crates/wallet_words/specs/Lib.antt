pub mod Words
pub mod Proxying
pub mod Commands
