use Rattle.std.proofs.Common.{refl, not, ◌==◌}
use Rattle.session_table.proofs.KeyLemmas.{given_stay}
use Rattle.session_table.proofs.RowLemmas.{filter-rows}
use Rattle.session_table.proofs.table.SessionTable.gone.Goals as goal

pub invariant_of-self : goal.invariant_of-self
invariant_of-self c = record { ordered = c.take_all.ensures.ordered; given = rw c.take_all.ensures.others (given_stay _ _ _ c.self.invariant.given) }

pub returns : goal.returns
returns c = rw (← c.self.view_is, c.take_all.ensures.others, filter-rows (λ row. not (row.owner.0 == c.args.owner.0)) c.self.inside.keys.keys) refl
