use Rattle.std.proofs.Common.{sym}
use Rattle.prompt_state.proofs.IndexLemmas.{ended-index, kept-index}
use Rattle.prompt_state.proofs.table.take_row.Goals as goal

-- the row's pair is removed with it
pub returns-in-Some-clause-indexed : goal.returns-in-Some-clause-indexed
returns-in-Some-clause-indexed c =
    ended-index c.args.prompt.0 c.in-Some.row c.args.rows.now.entries c.take_out.new.rows.entries c.args.pairs.now.keys c.take.new.pairs.keys c.requires.numbered c.requires.rising
    (sym c.in-Some.ensures.value) c.take_out.ensures.taken c.take.ensures.ordered c.take.ensures.others c.requires.indexed

-- nothing is removed if the prompt isn't there
pub returns-in-None-clause-indexed : goal.returns-in-None-clause-indexed
returns-in-None-clause-indexed c =
    kept-index c.args.prompt.0 c.args.rows.now.entries c.take_out.new.rows.entries c.args.pairs.now.keys (sym c.in-None.ensures.value) c.take_out.ensures.taken c.requires.indexed
