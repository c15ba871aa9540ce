pub mod Status
pub mod Streams
pub mod Lines
pub mod Secrets
pub mod Receiving
pub mod Greeting
pub mod Talking
pub mod Running
