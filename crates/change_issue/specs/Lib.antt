pub mod Registers
pub mod IssuedPieces
