mod DueLemmas
mod HistoryLemmas
mod PlaceLemmas
