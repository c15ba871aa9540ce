use Rattle.std.proofs.Common.{◌≡◌, take}
use Rattle.kr_names.specs.Escape.{escaped}
use Rattle.kr_names.proofs.escape.escape.Given as goal

abbrev pub invariant-loop-byte : goal.invariant-loop-byte
invariant-loop-byte l = l.text.items ≡ escaped (take l.byte-index l.bytes)
