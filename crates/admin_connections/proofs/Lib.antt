pub mod Sending
pub mod Beginning
