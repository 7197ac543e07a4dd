pub mod Desk
pub mod Moves
pub mod Sales
pub mod Tasks
