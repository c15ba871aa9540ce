pub mod Text
pub mod Stem
pub mod Attributes
pub mod Held
pub mod IdLists
