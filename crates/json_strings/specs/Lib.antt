pub mod Letters
pub mod Spelling
pub mod Reading
pub mod KeyOrder
pub mod Hashes
pub mod Keys
