pub mod Ledger
pub mod Tasks
