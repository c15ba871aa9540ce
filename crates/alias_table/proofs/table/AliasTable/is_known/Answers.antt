use Rattle.std.proofs.Common.{sym, ap, ◌∙◌, subst}
use Rattle.replace_slot.specs.Cell.{IsKnown}
use Rattle.alias_table.proofs.TableLemmas.{known_none}
use Rattle.alias_table.proofs.table.AliasTable.is_known.Goals as goal

-- there are no aliases of a newer image
pub returns-clause-alone : goal.returns-clause-alone
returns-clause-alone g c known =
    sym (ap (λ s. s.rows.newer) c.self.view_is)
    ∙ known_none c.self.inside.cell.file c.self.inside.aliases c.self.inside.newer c.self.invariant (subst IsKnown (sym (ap (λ s. s.rows.file) c.self.view_is)) known)
