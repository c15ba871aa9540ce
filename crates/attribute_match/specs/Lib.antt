pub mod Keys
pub mod Match
