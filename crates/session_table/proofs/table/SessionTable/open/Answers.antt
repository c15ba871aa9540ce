use Rattle.std.proofs.Common.{refl, arith, ◌+◌}
use Rattle.session_table.proofs.KeyLemmas.{given_stay, given_append, given_longer}
use Rattle.session_table.proofs.RowLemmas.{rows_added}
use Rattle.session_table.proofs.table.SessionTable.open.Goals as goal

-- the new pair has the number that was next, and all others are below
pub invariant_of-self-2 : goal.invariant_of-self-2
invariant_of-self-2 c = record {
  ordered = c.add.ensures.ordered;
  given = rw c.in_default.ensures.added (
      given_append _ _ _ (given_stay _ _ _ (given_longer c.self.inside.next (c.self.inside.next + 1) _ (omega arith) c.self.invariant.given))
      (omega arith, given_stay _ _ _ (given_longer c.self.inside.next (c.self.inside.next + 1) _ (omega arith) c.self.invariant.given)));
}

pub returns-clause-opened : goal.returns-clause-opened
returns-clause-opened c = rw (← c.self.view_is, c.in_default.ensures.added, rows_added c.args.owner.0 c.self.inside.next c.self.inside.keys.keys) refl
