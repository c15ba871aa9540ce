pub mod Names
pub mod Headers
pub mod HeaderViews
pub mod Messages
pub mod Refusals
pub mod Streams
pub mod Framers
pub mod Looks
