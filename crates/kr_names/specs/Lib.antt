pub mod Reads
pub mod Escape
pub mod Path
pub mod Naming
