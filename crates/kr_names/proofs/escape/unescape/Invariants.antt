use Rattle.std.proofs.Common.{◌≡◌, ◌-◌, ◌++◌, length, drop}
use Rattle.kr_names.specs.Escape.{unescaped}
use Rattle.kr_names.proofs.escape.unescape.Given as goal

-- what is read so far, and the rest
abbrev pub invariant-loop-place : goal.invariant-loop-place
invariant-loop-place l = l.bytes.items ++ unescaped (drop l.place l.text) ≡ unescaped l.text

abbrev pub decreases-loop-place : goal.decreases-loop-place
decreases-loop-place l = length l.text - l.place
