use Rattle.std.proofs.Common.{◌≡◌, map, take}
use Rattle.stem_choice.specs.Choice.{stem_byte}
use Rattle.stem_choice.proofs.choice.stem_bytes.Given as goal

abbrev pub invariant-loop-byte : goal.invariant-loop-byte
invariant-loop-byte l = l.made.items ≡ map stem_byte (take l.byte-index l.bytes)
