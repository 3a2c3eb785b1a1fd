pub mod Looping
pub mod Steps
pub mod Shares
pub mod Joined
pub mod Turns
pub mod Keeping
pub mod Waking
pub mod Woken
mod Holding
