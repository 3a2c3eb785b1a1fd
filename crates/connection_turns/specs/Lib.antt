pub mod Cores
pub mod Turning
pub mod Owed
pub mod Held
pub mod Planning
pub mod Expiring
