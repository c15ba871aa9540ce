pub mod ViewLemmas
pub mod RecordLemmas
