pub mod PlayHeads
pub mod Telling
pub mod Standing
pub mod Receiving
pub mod Playing
