pub mod Alike
pub mod Cells
pub mod Counts
pub mod Decided
pub mod Orders
pub mod Itself
pub mod Sorting
pub mod Marks
