use Rattle.std.proofs.Common.{sym, ap, ◌∙◌}
use Rattle.std.specs.List.{filter}
use Rattle.item_store.specs.Rows.{first_id, ids_where, has_just, passes_at, row_at, Rows}
use Rattle.item_store.proofs.IndexLemmas.{equal-rows}
use Rattle.item_store.proofs.store.ItemStore.by_equal.Goals as goal

pub returns : goal.returns
returns c =
    c.first_equal.ensures
    ∙ ap (λ l. first_id (filter (λ id. passes_at (has_just c.args.attributes.now) (row_at id c.self.inside.rows)) l)) c.candidate_ids.ensures
    ∙ sym (ap first_id (equal-rows c.self.inside.rows c.self.inside.index c.self.invariant c.args.attributes.now))
    ∙ ap (λ (rs : Rows). first_id (ids_where (has_just c.args.attributes.now) rs)) c.self.view_is
