pub mod RowLemmas
pub mod PlaceLemmas
pub mod IndexLemmas
mod MovingLemmas
