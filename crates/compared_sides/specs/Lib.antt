pub mod Values
pub mod Answered
pub mod Counted
pub mod Insides
