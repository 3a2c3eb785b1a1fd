pub mod Sent
pub mod Came
pub mod Answers
pub mod Payloads
pub mod Readings
