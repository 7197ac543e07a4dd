pub mod Sales
pub mod Strange
pub mod Balance
pub mod SeenLaws
pub mod BesideLaws
pub mod Rows
