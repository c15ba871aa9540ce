pub mod Calls
pub mod Outs
pub mod Serials
pub mod Works
