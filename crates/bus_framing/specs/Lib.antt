pub mod Looks
pub mod Links
