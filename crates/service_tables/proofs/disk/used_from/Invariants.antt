use Rattle.std.proofs.Common.{◌≡◌, ℕ, List, [], drop, map}
use Rattle.folder_store.specs.Aliases.{pairs_in}
use Rattle.service_tables.specs.Disk.{used_from, with_stems}
use Rattle.service_tables.proofs.disk.used_from.Given as goal

-- the stems of keyring files so far, and those that are left
abbrev pub invariant-loop-stem : goal.invariant-loop-stem
invariant-loop-stem g l = with_stems (drop l.stem-index l.loaded.used.items) l.used.stems ≡ with_stems l.loaded.used.items []

-- the stems that aliases stand for so far, and those that are left
abbrev pub invariant-loop-pair : goal.invariant-loop-pair
invariant-loop-pair g l =
    (l.pairs ≡ pairs_in l.fn.loaded.aliases) × (with_stems (map (λ (pair : List ℕ × List ℕ). pair.1) (drop l.pair-index l.pairs)) l.used.stems ≡ used_from l.fn.loaded)
