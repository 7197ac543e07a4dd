pub mod Texts
pub mod Padded
pub mod Identities
pub mod Issuing
pub mod Scrip
pub mod PieceOf
pub mod Reading
pub mod Told
