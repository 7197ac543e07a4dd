pub mod Places
pub mod Saying
pub mod Wallets
pub mod Refusals
pub mod Programs
pub mod Proxying
pub mod AtDoor
