pub mod Texts
pub mod Kept
pub mod Compiled
pub mod Lending
