pub mod Learnt
pub mod Counted
pub mod Cells
