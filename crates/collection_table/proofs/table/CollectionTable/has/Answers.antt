use Rattle.std.proofs.Common.{◌∙◌, ap, sym}
use Rattle.std.specs.Option.{is_some}
use Rattle.collection_table.proofs.RowLemmas.{has-rows, some-mapped}
use Rattle.collection_table.proofs.table.CollectionTable.has.Goals as goal

pub returns : goal.returns
returns g c = c.is_some.ensures ∙ sym (some-mapped (λ x. x.now) c.get.result) ∙ ap is_some c.get.ensures ∙ sym (has-rows c.args.stem.now c.args.self.now.entries)
