pub mod AttributeLemmas
pub mod OrderedLemmas
pub mod GatheredLemmas
pub mod IdLemmas
pub mod ChunkLemmas
pub mod DigitLemmas
