pub mod PieceIndex
pub mod Holdings
pub mod Choosing
pub mod Kept
pub mod Parts
pub mod Book
