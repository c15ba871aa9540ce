pub mod Pairs
pub mod Rules
