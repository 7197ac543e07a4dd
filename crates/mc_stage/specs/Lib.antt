pub mod Lists
pub mod Model
pub mod Image
pub mod Trace
pub mod Scenario
pub mod Tape
pub mod Stage
