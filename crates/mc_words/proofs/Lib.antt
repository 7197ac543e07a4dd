pub mod WordLaws
pub mod GoLemmas
