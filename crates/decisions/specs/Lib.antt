pub mod Tree
pub mod Order
pub mod Truth
pub mod Views
pub mod Places
pub mod Marks
pub mod Decided
pub mod Laws
