pub mod ListLemmas
pub mod GoodsLaws
pub mod CatalogueLaws
pub mod TargetLaws
pub mod ShelfLaws
pub mod LineLemmas
pub mod OperatorLemmas
