pub mod PathSizes
