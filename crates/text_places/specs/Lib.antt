pub mod Firsts
pub mod Levels
pub mod Marks
pub mod Surrogates
pub mod Twins
