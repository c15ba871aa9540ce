pub mod Aliases
pub mod Limits
pub mod Loads
pub mod Names
pub mod Opened
pub mod Ring
pub mod Walk
