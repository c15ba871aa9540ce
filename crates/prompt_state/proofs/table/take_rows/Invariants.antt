use Rattle.std.proofs.Common.{◌≡◌, ◌^◌, not, filter, length}
use Rattle.std.specs.Map.{values_of}
use Rattle.prompt_state.specs.Prompts.{AreGiven, AreRising, is_of}
use Rattle.prompt_state.specs.Kept.{AreIndexed, AreNumbered}
use Rattle.prompt_state.proofs.table.take_rows.Given as goal

-- what others have is as it was
abbrev pub invariant-loop-number : goal.invariant-loop-number
invariant-loop-number l = record {
  others : filter (λ row. not (is_of l.owner row)) (values_of l.rows.entries) ≡ filter (λ row. not (is_of l.owner row)) (values_of l.fn.rows.entries);
  given : AreGiven (2 ^ 64) (values_of l.rows.entries);
  rising : AreRising (values_of l.rows.entries);
  numbered : AreNumbered l.rows.entries;
  indexed : AreIndexed (values_of l.rows.entries) l.pairs.keys;
}

abbrev pub decreases-loop-number : goal.decreases-loop-number
decreases-loop-number l = length (values_of l.rows.entries)
