pub mod Listeners
pub mod Served
pub mod StreamWires
pub mod MemoryListeners
