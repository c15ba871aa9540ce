mod HashLemmas
