pub mod AnnouncingLemmas
pub mod PromptLemmas
pub mod SignalLemmas
pub mod UnlockingLemmas
