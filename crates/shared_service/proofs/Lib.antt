pub mod Calls
pub mod Ends
pub mod Recording
pub mod Rest
pub mod Standing
