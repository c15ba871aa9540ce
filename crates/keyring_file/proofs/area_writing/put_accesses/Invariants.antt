use Rattle.std.proofs.Common.{◌≡◌, ◌++◌, take}
use Rattle.std.specs.List.{flat_map}
use Rattle.keyring_file.specs.Canonical.{access_text}
use Rattle.keyring_file.proofs.area_writing.put_accesses.Given as goal

abbrev pub invariant-loop-access : goal.invariant-loop-access
invariant-loop-access l = l.out.items ≡ l.fn.out.items ++ flat_map access_text (take l.access-index l.entries)
