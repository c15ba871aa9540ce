pub mod CellLemmas
pub mod CrashLemmas
pub mod FoundLemmas
