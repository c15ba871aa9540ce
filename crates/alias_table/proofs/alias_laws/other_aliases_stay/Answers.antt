use Rattle.alias_table.proofs.LookupLemmas.{other_is_kept}
use Rattle.alias_table.proofs.alias_laws.other_aliases_stay.Goals as goal

pub returns : goal.returns
returns c = other_is_kept
