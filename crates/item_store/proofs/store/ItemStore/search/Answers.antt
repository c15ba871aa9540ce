use Rattle.std.proofs.Common.{map}
use Rattle.std.proofs.lemmas.Result.{IfOk-weaker}
use Rattle.item_store.proofs.IndexLemmas.{found-rows}
use Rattle.item_store.proofs.store.ItemStore.search.Goals as goal

pub returns : goal.returns
returns c = rw (← c.self.view_is) (IfOk-weaker c.found.result _ _ (λ found h. found-rows c.self.inside.rows c.self.inside.index c.self.invariant.rising c.self.invariant.indexed c.args.wanted.now (map (λ id. id.0) found.items) h) c.found.ensures)
