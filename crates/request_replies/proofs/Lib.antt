pub mod Keys
pub mod Steps
pub mod Once
pub mod Shares
