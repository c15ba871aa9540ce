use Rattle.std.proofs.Common.{◌≡◌, length, take}
use Rattle.alias_text.specs.Writing.{text_of}
use Rattle.alias_text.proofs.writing.size_of.Given as goal

-- the lines so far are counted
abbrev pub invariant-loop-alias : goal.invariant-loop-alias
invariant-loop-alias l = l.size ≡ length (text_of (take l.alias-index l.aliases))
