pub mod UsedLemmas
mod CandidateLemmas
pub mod ChoiceLemmas
mod WorkedRows
