pub mod LineLaws
pub mod LoopLaws
pub mod InputLaws
pub mod IdLaws
