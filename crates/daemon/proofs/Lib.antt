mod AcceptLemmas
mod FinishLemmas
