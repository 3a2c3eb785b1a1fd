pub mod There
pub mod Verdicts
pub mod Kept
pub mod Answered
