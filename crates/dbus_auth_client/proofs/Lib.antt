pub mod HearingLemmas
pub mod ServerLemmas
