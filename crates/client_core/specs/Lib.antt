pub mod Arguments
pub mod Askable
pub mod Asked
pub mod Replies
pub mod Signals
