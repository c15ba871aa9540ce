mod PlainLemmas
mod FitLemmas
mod AgainLemmas
