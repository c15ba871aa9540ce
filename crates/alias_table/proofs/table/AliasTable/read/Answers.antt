use Rattle.std.proofs.Common.{sym, subst}
use Rattle.kr_base.specs.Attributes.{IsInOrder}
use Rattle.alias_table.proofs.TableLemmas.{given_are}
use Rattle.alias_table.proofs.table.AliasTable.read.Goals as goal

-- aliases that a file gives are in order
pub stem_at-requires : goal.stem_at-requires
stem_at-requires g c =
    subst IsInOrder (sym c.as_slice.ensures) (given_are c.self.inside.cell.file c.self.inside.aliases c.self.inside.newer c.self.invariant).ordered
