pub mod Licences
pub mod Fields
pub mod Views
