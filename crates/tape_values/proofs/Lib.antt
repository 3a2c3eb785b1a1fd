pub mod Elements
pub mod Progressions
pub mod Sizes
pub mod Twins
pub mod Members
pub mod Lines
mod Dropped
mod Settled
mod Orders
