pub mod LawfulRuns
pub mod ServedLemmas
pub mod InitLemmas
pub mod OpenLaws
pub mod KindLaws
pub mod OperatorLemmas
pub mod EndLemmas
