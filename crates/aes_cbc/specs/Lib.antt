pub mod Field
pub mod Aes
pub mod Cbc
pub mod State
pub mod Key
