pub mod Resolving
pub mod Opening
pub mod Rekeying
pub mod Making
pub mod Taking
