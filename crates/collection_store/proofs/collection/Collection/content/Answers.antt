use Rattle.std.proofs.Common.{◌∙◌}
use Rattle.collection_store.proofs.StateLemmas.{contents_shown}
use Rattle.collection_store.proofs.collection.Collection.content.Goals as goal

pub returns : goal.returns
returns g c = rw (← c.self.view_is) (c.content.ensures ∙ contents_shown c.args.id.0 c.self.inside.cell.file c.self.inside.told _ c.self.invariant.opens)
