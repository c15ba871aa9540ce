-- The lines so far are those of the paths so far.
use Rattle.std.proofs.Common.{◌≡◌, ◌++◌, take}
use Rattle.std.specs.List.{flat_map}
use Rattle.tool_script.specs.Script.{locked_line}
use Rattle.tool_script.proofs.printed.add_locked.Given as goal

abbrev pub invariant-loop-path : goal.invariant-loop-path
invariant-loop-path l = l.text.items ≡ l.fn.text.items ++ flat_map locked_line (take l.path-index l.paths)
