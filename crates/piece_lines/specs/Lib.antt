pub mod Rules
pub mod PieceLines
pub mod Answers
