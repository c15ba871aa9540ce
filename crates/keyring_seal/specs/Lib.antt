pub mod Arranged
pub mod Laws
pub mod Order
pub mod Room
pub mod Told
pub mod Whole
