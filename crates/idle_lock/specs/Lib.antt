pub mod Deadline
pub mod History
