pub mod Selection
pub mod Comparison
pub mod Functions
pub mod Evaluation
pub mod Charge
pub mod Links
