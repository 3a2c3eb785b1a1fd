pub mod Looping
pub mod Measuring
