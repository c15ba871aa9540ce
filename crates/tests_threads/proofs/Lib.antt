pub mod Recorded
pub mod Sends
