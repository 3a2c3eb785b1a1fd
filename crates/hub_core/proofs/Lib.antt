pub mod Serving
pub mod Bounds
pub mod Left
pub mod Waiting
pub mod Wires
mod Taking
