use Rattle.std.proofs.Common.{◌≡◌, ◌++◌}
use Rattle.std.specs.Prelude.{drop, map, string_bytes}
use Rattle.std.specs.Vec.Iter.{into_iter_items, into_iter_len}
use Rattle.secret_tool.proofs.after_the_first.Given as goal

-- the words so far, and those that are left, are the arguments after the first
abbrev pub invariant-loop-word : goal.invariant-loop-word
invariant-loop-word l = map string_bytes (drop 1 (into_iter_items l.fn.all)) ≡ l.words.items ++ map string_bytes (into_iter_items l.all)

abbrev pub decreases-loop-word : goal.decreases-loop-word
decreases-loop-word l = into_iter_len l.all
