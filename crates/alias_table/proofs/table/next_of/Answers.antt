use Rattle.std.proofs.Common.{sym, subst}
use Rattle.alias_text.specs.Writing.{AreAliases}
use Rattle.alias_table.proofs.ChangedLemmas.{changed_are}
use Rattle.alias_table.proofs.table.next_of.Goals as goal

-- the aliases are in order after the change
pub of-requires : goal.of-requires
of-requires c =
    subst AreAliases (sym c.in_ok-next.ensures)
    (changed_are c.args.name.now c.args.stem.now c.args.live.now c.args.aliases.now c.requires.are c.requires.named c.known_stem.ensures)
