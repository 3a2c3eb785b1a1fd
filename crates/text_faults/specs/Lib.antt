pub mod Expectations
pub mod Moves
pub mod Prefixes
pub mod Steps
