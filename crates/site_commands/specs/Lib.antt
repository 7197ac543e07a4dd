pub mod Founding
pub mod Endings
pub mod Serving
pub mod Init
pub mod Operator
