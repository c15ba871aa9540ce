mod AskLemmas
mod EntryLemmas
pub mod IndexLemmas
mod OnceLemmas
mod PairLemmas
pub mod SoundLemmas
mod TableLemmas
mod TargetLemmas
