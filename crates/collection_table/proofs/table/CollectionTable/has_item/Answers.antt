use Rattle.std.proofs.Common.{◌∙◌, ap, sym}
use Rattle.std.specs.Option.{is_some}
use Rattle.collection_table.specs.Entries.{rows_of}
use Rattle.collection_table.proofs.RowLemmas.{content-any, some-mapped}
use Rattle.collection_table.proofs.table.CollectionTable.has_item.Goals as goal

-- an item is shown where its content type is
pub returns : goal.returns
returns g c = c.is_some.ensures ∙ sym (some-mapped (λ x. x.now) c.content.result) ∙ ap is_some c.content.ensures ∙ content-any c.args.stem.now c.args.id.0 (rows_of c.args.self.now.entries)
