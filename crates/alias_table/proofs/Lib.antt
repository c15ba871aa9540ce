pub mod ChangedLemmas
pub mod TableLemmas
pub mod LookupLemmas
