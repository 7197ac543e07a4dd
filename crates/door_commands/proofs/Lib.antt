pub mod OpenLemmas
pub mod ToldLemmas
