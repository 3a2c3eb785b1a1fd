pub mod Folds
pub mod Strings
