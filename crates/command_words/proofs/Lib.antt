pub mod ArgumentLemmas
pub mod FoundLemmas
pub mod NumberLemmas
pub mod CommandLemmas
