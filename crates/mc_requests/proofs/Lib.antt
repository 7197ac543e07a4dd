pub mod DateLemmas
pub mod ErrandLaws
pub mod TargetLaws
