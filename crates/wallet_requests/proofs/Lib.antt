pub mod RequestLines
pub mod ItemLemmas
pub mod FieldLemmas
pub mod SentLemmas
