pub mod Streams
pub mod Moves
pub mod Reports
