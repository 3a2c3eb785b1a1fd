pub mod NormalPath
pub mod Ways
