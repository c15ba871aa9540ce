mod EntryLemmas
mod KeyLemmas
mod PlaceLemmas
