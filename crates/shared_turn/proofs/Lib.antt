pub mod Histories
pub mod Keeps
pub mod Owning
pub mod Readies
pub mod Seating
