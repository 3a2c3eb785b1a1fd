pub mod Answers
pub mod Laws
pub mod Shares
pub mod Tenants
