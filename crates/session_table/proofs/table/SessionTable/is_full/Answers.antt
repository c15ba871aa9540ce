use Rattle.std.proofs.Common.{◌==◌, arith}
use Rattle.std.proofs.lemmas.Bool.Decides.{nat_tests}
use Rattle.session_table.proofs.RowLemmas.{length-filter_rows}
use Rattle.session_table.proofs.table.SessionTable.is_full.Goals as goal

-- a count of pairs is a count of rows
pub returns-else-self : goal.returns-else-self
returns-else-self c = rw (← c.self.view_is, ← length-filter_rows (λ row. row.owner.0 == c.args.owner.0) c.self.inside.keys.keys, ← c.count_of.ensures) (grind (arith, nat_tests))
