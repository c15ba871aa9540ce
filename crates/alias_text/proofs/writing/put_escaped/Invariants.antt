use Rattle.std.proofs.Common.{◌≡◌, ◌≤◌, ◌++◌, take, vec_capacity}
use Rattle.kr_names.specs.Escape.{escaped}
use Rattle.alias_text.proofs.writing.put_escaped.Given as goal

-- the bytes so far were written, and the room hasn't shrunk
abbrev pub invariant-loop-byte : goal.invariant-loop-byte
invariant-loop-byte l =
    (l.text.items ≡ l.initial.text.items ++ escaped (take l.byte-index l.stem)) × (vec_capacity l.initial.text ≤ vec_capacity l.text)
