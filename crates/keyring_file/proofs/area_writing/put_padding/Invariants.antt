use Rattle.std.proofs.Common.{◌≡◌, ◌++◌}
use Rattle.keyring_file.specs.Canonical.{zeros}
use Rattle.keyring_file.proofs.area_writing.put_padding.Given as goal

abbrev pub invariant-loop : goal.invariant-loop
invariant-loop l = l.out.items ≡ l.fn.out.items ++ zeros l.counter
