use Rattle.std.proofs.Common.{subst}
use Rattle.std.proofs.lemmas.Result.{IfOk-weaker}
use Rattle.attribute_index.specs.Entries.{IsIndexOf}
use Rattle.item_store.specs.Rows.{AreOf, IsKept}
use Rattle.item_store.proofs.IndexLemmas.{kept-made}
use Rattle.item_store.proofs.loading.index_of.Goals as goal

pub returns : goal.returns
returns c =
    let items = c.in_ok-items.items.items in
    let made = rw c.as_slice-2.ensures.value at c.of_items.ensures in
    let are = subst (λ rows. AreOf rows items) c.as_slice.ensures.rows c.in_ok-items.ensures in
    IfOk-weaker c.of_items.result (IsIndexOf items) (IsKept c.args.rows.now) (λ index is. kept-made c.args.rows.now items index c.as_slice.ensures.rising are is) made
