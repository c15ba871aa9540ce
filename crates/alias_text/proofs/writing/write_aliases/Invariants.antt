use Rattle.std.proofs.Common.{◌≡◌, ◌≤◌, length, take, vec_capacity}
use Rattle.alias_text.specs.Writing.{text_of}
use Rattle.alias_text.proofs.writing.write_aliases.Given as goal

-- the lines so far were written, and there is room for all lines
abbrev pub invariant-loop-alias : goal.invariant-loop-alias
invariant-loop-alias l =
    (l.text.items ≡ text_of (take l.alias-index l.aliases)) × (length (text_of l.aliases) ≤ vec_capacity l.text)
