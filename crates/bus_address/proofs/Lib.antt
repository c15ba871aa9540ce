pub mod PieceLemmas
pub mod ValueLemmas
pub mod EntryLemmas
