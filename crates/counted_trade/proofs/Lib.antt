pub mod LicenceLaws
pub mod NoteLaws
pub mod OrderLaws
pub mod TradeLaws
pub mod KeyLaws
mod SoldLaws
pub mod TaskLemmas
pub mod JudgeLemmas
pub mod NoteLemmas
pub mod PayLemmas
