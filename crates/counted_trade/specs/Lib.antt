pub mod Licences
pub mod Notes
pub mod Counts
pub mod CountedView
pub mod Counted
pub mod Sold
pub mod Series
pub mod Tasks
