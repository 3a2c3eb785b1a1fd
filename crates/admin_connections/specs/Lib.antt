pub mod Visits
pub mod Desks
