pub mod Pieces
pub mod Values
pub mod Pairs
pub mod Entries
pub mod Addresses
pub mod BusNames
