pub mod Links
pub mod Shops
pub mod Houses
pub mod Wallets
pub mod Games
