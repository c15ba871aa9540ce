pub mod Changes
pub mod Kept
pub mod Prompts
pub mod Targets
