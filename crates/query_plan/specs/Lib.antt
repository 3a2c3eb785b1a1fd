pub mod Laws
pub mod Planned
pub mod Making
pub mod Slots
