pub mod Text
pub mod Json
