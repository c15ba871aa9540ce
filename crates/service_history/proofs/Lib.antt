pub mod HistoryLemmas
mod KeptLemmas
mod RoomLemmas
mod WindowLemmas
mod RunLemmas
mod FreeLemmas
