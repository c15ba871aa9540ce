pub mod Changed
pub mod Table
