pub mod Time
pub mod Verdict
pub mod Lines
pub mod Looks
pub mod Folder
pub mod Batches
pub mod Ending
