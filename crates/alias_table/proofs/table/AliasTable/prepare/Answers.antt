use Rattle.std.proofs.Common.{sym, subst}
use Rattle.alias_text.specs.Writing.{AreAliases}
use Rattle.alias_table.proofs.TableLemmas.{given_are, newer_are}
use Rattle.alias_table.proofs.table.AliasTable.prepare.Goals as goal

-- the aliases that are read are those that a file gives
pub next_of-requires-clause-are : goal.next_of-requires-clause-are
next_of-requires-clause-are g c =
    subst AreAliases (sym c.as_slice.ensures) (given_are c.self.inside.cell.file c.self.inside.aliases c.self.inside.newer c.self.invariant)

-- and so are those of the newer image
pub next_of-requires-in-Some-clause-are : goal.next_of-requires-in-Some-clause-are
next_of-requires-in-Some-clause-are g c =
    subst AreAliases (sym c.as_slice-in-Some.ensures)
    (newer_are c.self.inside.cell.file c.self.inside.aliases c.in-Some.newer (rw c.in-Some.is at c.self.invariant))
