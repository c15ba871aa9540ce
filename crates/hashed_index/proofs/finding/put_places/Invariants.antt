use Rattle.std.proofs.Common.{◌≡◌, ◌++◌, drop, map}
use Rattle.hashed_index.specs.declared.entries.Entry.{Entry}
use Rattle.hashed_index.proofs.finding.put_places.Given as goal

-- what was appended, and what is left
abbrev pub invariant-loop-entry : goal.invariant-loop-entry
invariant-loop-entry l = l.places.items ++ map (λ (e : Entry). e.place) (drop l.entry-index l.entries) ≡ l.initial.places.items ++ map (λ (e : Entry). e.place) l.entries
