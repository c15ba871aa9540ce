pub mod Rows
pub mod Hear
pub mod Laws
pub mod Starting
