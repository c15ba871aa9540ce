pub mod Feeding
pub mod Naming
