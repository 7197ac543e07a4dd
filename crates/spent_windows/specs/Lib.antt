pub mod Windows
pub mod Fresh
pub mod Looks
pub mod Store
