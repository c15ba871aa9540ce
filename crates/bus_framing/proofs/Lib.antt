pub mod LookLemmas
pub mod LinkLemmas
