pub mod Answers
pub mod Commands
pub mod Conversation
pub mod Exchange
pub mod Handshake
pub mod Lines
pub mod Replies
pub mod Table
