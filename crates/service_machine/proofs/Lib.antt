pub mod RecordedLemmas
pub mod RoomLemmas
pub mod SteadyLemmas
pub mod NothingLemmas
