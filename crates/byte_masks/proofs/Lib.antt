pub mod Lanes
pub mod Classes
