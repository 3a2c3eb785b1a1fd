pub mod Long
pub mod Rounds
