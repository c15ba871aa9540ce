pub mod LineLemmas
pub mod PairLemmas
pub mod WritingLemmas
pub mod LawLemmas
