pub mod FieldReads
pub mod Laws
pub mod PaddedLemmas
pub mod TextTests
