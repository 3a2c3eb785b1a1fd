pub mod Escapes
pub mod Odds
