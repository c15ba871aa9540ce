use Rattle.service_tables.proofs.TypedLemmas.{pairs-typed}
use Rattle.service_tables.proofs.known.known_item.Goals as goal

-- the types of the pairs are those of their parts
pub returns : goal.returns
returns c = record {
  label = c.known_text.ensures;
  ordered = c.known_pairs.ensures.ordered;
  attributes = pairs-typed c.args.attributes.now c.known_pairs.ensures.each;
}
