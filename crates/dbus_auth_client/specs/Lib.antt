pub mod Openings
pub mod Hearing
