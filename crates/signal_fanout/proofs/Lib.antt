pub mod BoxLemmas
pub mod EachLemmas
pub mod ReadyLemmas
pub mod RoomLemmas
pub mod SpreadLemmas
