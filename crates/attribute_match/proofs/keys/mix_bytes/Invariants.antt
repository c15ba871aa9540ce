use Rattle.std.proofs.Common.{◌≡◌, drop}
use Rattle.attribute_match.specs.Keys.{mixed}
use Rattle.attribute_match.proofs.keys.mix_bytes.Given as goal

-- the bytes that are left lead to the same key
abbrev pub invariant-loop-place : goal.invariant-loop-place
invariant-loop-place l = mixed l.mixed (drop l.place l.bytes) ≡ mixed l.key l.bytes
