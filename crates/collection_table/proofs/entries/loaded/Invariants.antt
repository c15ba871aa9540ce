use Rattle.std.proofs.Common.{◌≡◌, ◌++◌, length, map}
use Rattle.collection_table.specs.Entries.{loaded_from}
use Rattle.collection_table.proofs.entries.loaded.Given as goal

-- what was made of the files, and the files that are left
abbrev pub invariant-loop-ring : goal.invariant-loop-ring
invariant-loop-ring g l =
    (goal.iterator-loop-ring g).can_next l.ring-iterator ×
    (goal.iterator-loop-ring g).is_finite l.ring-iterator ×
    (length l.ring-iterator.rest.items ≡ l.ring-iterator.rest.len) ×
    (l.entries.items ++ map loaded_from l.ring-iterator.rest.items ≡ map loaded_from l.fn.rings.items)
