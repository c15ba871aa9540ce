use Rattle.service_tables.proofs.TypedLemmas.{pairs-typed}
use Rattle.service_tables.proofs.known.known_attributes.Goals as goal

-- the types of the pairs are those of their parts
pub returns : goal.returns
returns c = record { ordered = c.known_pairs.ensures.ordered; attributes = pairs-typed c.args.attributes.now c.known_pairs.ensures.each }
