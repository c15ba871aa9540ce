pub mod Words
pub mod Plan
pub mod Sending
pub mod Counts
pub mod Answered
pub mod Lines
