pub mod Lexing
pub mod Bridge
pub mod Counting
pub mod Walking
pub mod Building
pub mod Placing
pub mod Walked
pub mod UnderWay
