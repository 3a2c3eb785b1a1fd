pub mod Numbers
pub mod Grammars
pub mod Walks
