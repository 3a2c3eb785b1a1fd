pub mod Cells
pub mod Built
pub mod Opened
