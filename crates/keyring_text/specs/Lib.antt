pub mod Fields
pub mod Forms
pub mod FieldReading
pub mod Seen
