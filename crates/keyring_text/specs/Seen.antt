-- The keys that occurred so far in one list, as the keys of a set that is built while the list is read.
use Rattle.std.specs.Prelude.{◌≡◌, Bool, ◌||◌, List}
use Rattle.std.specs.List.{list_any}

-- whether this key is among the set's keys, each seen by the view
abbrev pub stood_in : {K Q : Type 0} → (Q → Q → Bool) → (K → Q) → List K → Q → Bool
stood_in same view keys q = list_any (λ k. same q (view k)) keys

-- the new keys are the old ones and this one
abbrev pub AddsKey : {K Q : Type 0} → (Q → Q → Bool) → (K → Q) → List K → List K → Q → Type 0
AddsKey {K} {Q} same view old new key = (q : Q) → stood_in same view new q ≡ (same q key || stood_in same view old q)
