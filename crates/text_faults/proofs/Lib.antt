pub mod Runs
pub mod Completions
pub mod Backwards
mod Known
pub mod Longest
pub mod Next
mod Wholes
