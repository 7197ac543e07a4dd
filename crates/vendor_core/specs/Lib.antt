pub mod Editions
pub mod Catalogue
pub mod Targets
pub mod Shelf
pub mod Lines
pub mod Tasks
