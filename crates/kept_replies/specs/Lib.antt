pub mod Requests
pub mod Kept
pub mod Index
pub mod Parts
pub mod Body
pub mod Store
