pub mod Rows
pub mod BookLaws
pub mod PieceLaws
pub mod KeptLaws
pub mod PaidLaws
pub mod CameLaws
pub mod WrittenLaws
pub mod FitLaws
