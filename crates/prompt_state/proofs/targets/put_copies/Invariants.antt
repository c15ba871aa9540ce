use Rattle.std.proofs.Common.{◌≡◌, ◌++◌, take}
use Rattle.prompt_state.proofs.targets.put_copies.Given as goal

-- copies so far
abbrev pub invariant-loop-target : goal.invariant-loop-target
invariant-loop-target l = l.list.items ≡ l.fn.list.items ++ take l.target-index l.targets
