pub mod TellingLaws
pub mod ReceivingLaws
pub mod SupplyLaws
mod Walks
