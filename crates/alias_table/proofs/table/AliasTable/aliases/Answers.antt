use Rattle.std.proofs.Common.{ap, subst}
use Rattle.alias_text.specs.Writing.{AreAliases}
use Rattle.alias_table.proofs.TableLemmas.{given_are}
use Rattle.alias_table.proofs.table.AliasTable.aliases.Goals as goal

pub returns-clause-shown : goal.returns-clause-shown
returns-clause-shown g c =
    subst AreAliases (ap (λ s. s.rows.aliases) c.self.view_is) (given_are c.self.inside.cell.file c.self.inside.aliases c.self.inside.newer c.self.invariant)
