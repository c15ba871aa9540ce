pub mod LoadLemmas
pub mod NameLemmas
pub mod OpenedLemmas
pub mod OpeningLemmas
pub mod StemLemmas
pub mod VisitLemmas
pub mod WalkLemmas
