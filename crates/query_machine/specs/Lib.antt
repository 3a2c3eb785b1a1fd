pub mod Cursors
pub mod Stacks
pub mod Levels
pub mod Evaluators
