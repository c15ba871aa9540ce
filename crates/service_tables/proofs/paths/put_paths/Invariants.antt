use Rattle.std.proofs.Common.{◌≡◌, ◌++◌, drop}
use Rattle.service_tables.specs.Objects.{item_paths}
use Rattle.service_tables.proofs.paths.put_paths.Given as goal

-- the paths so far, and those of the items that are left
abbrev pub invariant-loop-id : goal.invariant-loop-id
invariant-loop-id l = l.paths.items ++ item_paths l.stem (drop l.id-index l.ids) ≡ l.initial.paths.items ++ item_paths l.stem l.ids
