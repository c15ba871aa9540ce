use Rattle.std.proofs.Common.{◌∙◌}
use Rattle.collection_table.proofs.RowLemmas.{ids_are, tested}
use Rattle.collection_table.proofs.entries.found_in.Goals as goal

pub returns : goal.returns
returns g c = λ i. record {
  stem = c.in_ok-stem.ensures i;
  is_open = tested c.is_open.result c.args.entry.now.1.held c.is_open.ensures.value i;
  ids = (c.new.ensures ∙ ids_are c.in_ok-ids.ids.items _ c.in_ok-ids.ensures) i;
}
