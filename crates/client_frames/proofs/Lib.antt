pub mod Sending
pub mod Framed
pub mod Back
pub mod Items
