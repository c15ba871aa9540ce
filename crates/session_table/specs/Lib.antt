pub mod Keys
pub mod Sessions
