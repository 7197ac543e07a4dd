pub mod SayLemmas
