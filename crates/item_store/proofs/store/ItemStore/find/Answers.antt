use Rattle.std.proofs.Common.{map}
use Rattle.std.proofs.lemmas.Result.{IfOk-weaker}
use Rattle.item_store.proofs.IndexLemmas.{found-rows, few-by-rows, few-of-rows}
use Rattle.item_store.proofs.store.ItemStore.find.Goals as goal

pub returns-clause-found : goal.returns-clause-found
returns-clause-found g c = rw (← c.self.view_is) (IfOk-weaker c.find.result _ _ (λ found h. found-rows c.self.inside.rows c.self.inside.index c.self.invariant.rising c.self.invariant.indexed c.args.wanted.now (map (λ id. id.0) found.items) h) c.find.ensures.found)

pub returns-clause-few : goal.returns-clause-few
returns-clause-few g c = rw (← c.self.view_is) (few-by-rows c.self.inside.rows c.self.inside.index c.self.invariant.indexed c.args.wanted.now c.args.steps.now c.find.new.steps c.find.ensures.few)

pub returns-clause-few_of_all : goal.returns-clause-few_of_all
returns-clause-few_of_all g c = λ none. rw (← c.self.view_is) (few-of-rows c.self.inside.rows c.self.inside.index c.self.invariant.indexed c.args.steps.now c.find.new.steps (c.find.ensures.few_of_all none))
