pub mod OpeningLemmas
pub mod TellLaws
