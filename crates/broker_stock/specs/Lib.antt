pub mod Racks
pub mod Shelves
