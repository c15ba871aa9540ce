pub mod Line
pub mod Pairs
pub mod Writing
