pub mod Opener
pub mod Opening
