pub mod Joined
pub mod Sides
pub mod Keeping
pub mod WideObjects
