use Rattle.std.proofs.Common.{refl, sym, ◌∙◌}
use Rattle.item_store.specs.Rows.{kept_of}
use Rattle.item_store.proofs.RowLemmas.{without-none}
use Rattle.item_store.proofs.IndexLemmas.{kept-without, kept-same}
use Rattle.item_store.proofs.store.remove_row.Goals as goal

pub returns-in-Some-clause-kept : goal.returns-in-Some-clause-kept
returns-in-Some-clause-kept c =
    kept-without c.args.rows.now c.take_out.new.rows c.args.index.now c.take_out-in-Some.new.self c.args.number (kept_of c.in-Some.row) c.requires (sym (rw c.in-Some.is at c.take_out.ensures.value)) c.take_out.ensures.taken c.take_out-in-Some.ensures.taken c.take_out-in-Some.ensures.all

pub returns-in-None-clause-kept : goal.returns-in-None-clause-kept
returns-in-None-clause-kept c =
    kept-same c.args.rows.now c.take_out.new.rows c.args.index.now c.args.index.now c.requires (c.take_out.ensures.taken ∙ without-none c.args.number c.args.rows.now (sym (rw c.in-None.is at c.take_out.ensures.value))) (λ n t. refl) refl

pub returns-in-None-clause-unchanged : goal.returns-in-None-clause-unchanged
returns-in-None-clause-unchanged c = c.take_out.ensures.taken ∙ without-none c.args.number c.args.rows.now (sym (rw c.in-None.is at c.take_out.ensures.value))
