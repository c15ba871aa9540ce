use Rattle.service_tables.proofs.TypedLemmas.{text-typed}
use Rattle.service_tables.proofs.known.known_text.Goals as goal

pub returns : goal.returns
returns c = text-typed c.args.text.now c.as_str-text.ensures.text
