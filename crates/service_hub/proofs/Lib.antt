pub mod GatherLemmas
pub mod HomeLemmas
pub mod HubLemmas
pub mod LoopLemmas
pub mod PlaceLemmas
pub mod RecordedLemmas
pub mod ServesLemmas
pub mod Sends
