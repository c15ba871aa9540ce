mod DistinctLemmas
mod ThousandLemmas
