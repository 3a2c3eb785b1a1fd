pub mod Charges
pub mod Strides
pub mod Steps
pub mod Stacks
pub mod Above
pub mod Shares
pub mod Leaves
