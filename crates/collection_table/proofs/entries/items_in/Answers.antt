use Rattle.std.proofs.Common.{◌≤◌, arith, length, subst}
use Rattle.std.proofs.lemmas.List.{take_all}
use Rattle.collection_table.specs.Entries.{Entries, rows_of}
use Rattle.collection_table.specs.Rows.{HaveItems}
use Rattle.collection_table.proofs.RowLemmas.{counts-more, items-more}
use Rattle.collection_table.proofs.entries.items_in.Goals as goal

-- one collection more is counted
pub loop-place-preserved : goal.loop-place-preserved
loop-place-preserved g c = (
  counts-more c.args.entries.now c.loop-place.place c.index-entries-place.result c.loop-place.count c.most_items.result c.saturating_add-count.result c.loop-place-test.true c.index-entries-place.is c.loop-place.invariant.0 c.most_items.ensures.value c.saturating_add-count.ensures,
  items-more c.args.entries.now c.loop-place.place c.index-entries-place.result c.loop-place.count c.most_items.result c.saturating_add-count.result c.loop-place-test.true c.index-entries-place.is c.loop-place.invariant.1 c.most_items.ensures.images c.saturating_add-count.ensures,
)

-- all of them were counted
pub returns-clause-images : goal.returns-clause-images
returns-clause-images g c =
    let ended : length c.args.entries.now ≤ c.loop-place.place = omega (arith, c.loop-place-test.false) in
    subst (λ (l : Entries g.row.S.Denot). HaveItems (rows_of l) c.loop-place.count) (take_all c.loop-place.place c.args.entries.now ended) c.loop-place.invariant.1
