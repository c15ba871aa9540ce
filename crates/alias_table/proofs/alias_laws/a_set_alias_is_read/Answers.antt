use Rattle.alias_table.specs.Changed.{kept}
use Rattle.alias_table.proofs.LookupLemmas.{set_is_read}
use Rattle.alias_table.proofs.alias_laws.a_set_alias_is_read.Goals as goal

pub returns : goal.returns
returns c name stem live aliases = set_is_read name stem (kept live aliases)
