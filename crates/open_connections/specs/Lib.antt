pub mod Joined
pub mod Laws
pub mod Looping
pub mod Opened
pub mod Shares
pub mod Turns
pub mod Woken
