pub mod Orders
pub mod Joining
pub mod Single
pub mod Counting
pub mod Advancing
