pub mod Splits
pub mod OneSplit
pub mod Cutting
pub mod ReadBack
pub mod Written
