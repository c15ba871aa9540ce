use Rattle.std.proofs.Common.{ap, ◌∙◌}
use Rattle.std.specs.Option.{is_some}
use Rattle.item_store.specs.Rows.{row_at, rows_without}
use Rattle.item_store.proofs.RowLemmas.{at-above}
use Rattle.item_store.proofs.IndexLemmas.{fresh, there-added, without-added, kept-added, kept-same}
use Rattle.item_store.proofs.store.add_row.Goals as goal

pub add_id-requires-clause-there : goal.add_id-requires-clause-there
add_id-requires-clause-there c = ap (λ rs. is_some (row_at c.args.number rs)) c.in_ok-put_last.ensures.put ∙ ap is_some (there-added c.args.rows.now c.args.number (record { kind = c.args.kind; item = c.args.item }) c.requires.last)

pub add_id-requires-clause-fresh : goal.add_id-requires-clause-fresh
add_id-requires-clause-fresh c = fresh c.args.rows.now c.args.index.now c.requires.kept.rising c.requires.kept.indexed c.args.number (at-above c.args.rows.now c.args.number c.requires.last)

pub returns-in-Err-clause-kept : goal.returns-in-Err-clause-kept
returns-in-Err-clause-kept c =
    let back = c.take_out.ensures.taken ∙ ap (rows_without c.args.number) c.in_ok-put_last.ensures.put ∙ without-added c.args.rows.now c.args.number (record { kind = c.args.kind; item = c.args.item }) c.requires.last in
    kept-same c.args.rows.now c.take_out.new.rows c.args.index.now c.add_id.new.index c.requires.kept back c.in-Err.ensures.unchanged c.in-Err.ensures.all_unchanged

pub returns-in-Err-clause-unchanged : goal.returns-in-Err-clause-unchanged
returns-in-Err-clause-unchanged c = c.take_out.ensures.taken ∙ ap (rows_without c.args.number) c.in_ok-put_last.ensures.put ∙ without-added c.args.rows.now c.args.number (record { kind = c.args.kind; item = c.args.item }) c.requires.last

pub returns-clause-kept : goal.returns-clause-kept
returns-clause-kept c =
    kept-added c.args.rows.now c.put_last.new.rows c.args.index.now c.add_id.new.index c.args.number (record { kind = c.args.kind; item = c.args.item }) c.requires.kept c.requires.last c.in_ok-put_last.ensures.put c.in_default.ensures.put c.in_default.ensures.all
