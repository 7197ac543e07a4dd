pub mod Steps
pub mod Places
pub mod SoleLine
pub mod ChoiceLaws
