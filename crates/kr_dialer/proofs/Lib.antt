pub mod CarryingLemmas
pub mod CarriedLemmas
