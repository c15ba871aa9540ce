pub mod EntryLemmas
pub mod BranchLemmas
pub mod ThereLemmas
pub mod KeptLemmas
pub mod PairLemmas
pub mod FindLemmas
pub mod HeightLemmas
pub mod MakingLemmas
