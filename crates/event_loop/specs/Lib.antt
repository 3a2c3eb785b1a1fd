pub mod Seats
pub mod Servers
pub mod Clocked
pub mod Drains
pub mod Turns
pub mod Gauging
