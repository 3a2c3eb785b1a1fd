pub mod Pieces
pub mod Records
