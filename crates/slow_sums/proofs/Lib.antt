pub mod Lists
pub mod HandedLaws
pub mod SoldLaws
pub mod LeftLaws
pub mod MintedLaws
pub mod Strange
