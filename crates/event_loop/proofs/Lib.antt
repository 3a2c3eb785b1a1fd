pub mod Deaf
pub mod Going
pub mod Listed
pub mod Looping
pub mod Serving
pub mod Waking
pub mod Seats
pub mod Gauging
