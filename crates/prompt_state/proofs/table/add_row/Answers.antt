use Rattle.std.proofs.Common.{sym, subst}
use Rattle.std.specs.Map.{values_of}
use Rattle.prompt_state.specs.Kept.{AreIndexed}
use Rattle.prompt_state.proofs.EntryLemmas.{keys-below}
use Rattle.prompt_state.proofs.IndexLemmas.{pairs-below, undone-index}
use Rattle.prompt_state.proofs.table.add_row.Goals as goal

pub add-requires-clause-given : goal.add-requires-clause-given
add-requires-clause-given c = pairs-below c.args.number (values_of c.args.rows.now.entries) c.args.pairs.now.keys c.requires.given c.requires.indexed

pub put_last-requires : goal.put_last-requires
put_last-requires c = keys-below c.args.number c.args.rows.now.entries c.requires.numbered c.requires.given

-- the pair that was added is removed
pub returns-in-Err-clause-indexed : goal.returns-in-Err-clause-indexed
returns-in-Err-clause-indexed c = subst (λ es. AreIndexed (values_of es) c.take.new.pairs.keys) (sym c.in-Err.ensures.unchanged) (
    undone-index c.args.owner c.args.number (values_of c.args.rows.now.entries) c.args.pairs.now.keys c.add.new.pairs.keys c.take.new.pairs.keys c.requires.given c.take.ensures.ordered
    c.in_ok-add.ensures.added c.take.ensures.others c.requires.indexed)
