pub mod Lines
pub mod Documents
pub mod Keys
pub mod Naming
pub mod Answers
pub mod Faults
