pub mod CrashLemmas
pub mod LeftLemmas
pub mod PlaceLemmas
pub mod SlotLemmas
pub mod FileLemmas
