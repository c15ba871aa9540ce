use Rattle.std.proofs.Common.{◌≡◌, ◌++◌, take}
use Rattle.alias_table.specs.Changed.{kept, after}
use Rattle.alias_table.proofs.next.copy_after.Given as goal

-- the wanted aliases among those so far were appended
abbrev pub invariant-loop-alias : goal.invariant-loop-alias
invariant-loop-alias l = l.next.items ≡ l.initial.next.items ++ after l.name (kept l.live (take l.alias-index l.aliases))
