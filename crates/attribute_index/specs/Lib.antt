pub mod Around
pub mod Branches
pub mod Entries
pub mod Heights
pub mod Index
