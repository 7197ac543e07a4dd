pub mod OpeningLemmas
pub mod CourseLemmas
pub mod PlayOpening
pub mod PlayLemmas
pub mod LineLemmas
pub mod MintLemmas
pub mod PlayLaws
