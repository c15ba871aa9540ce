mod MatchLemmas
