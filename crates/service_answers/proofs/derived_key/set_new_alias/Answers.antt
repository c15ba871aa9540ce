use Rattle.service_calls.specs.service_tables.proofs.SlotLemmas.{of-some}
use Rattle.service_answers.proofs.derived_key.set_new_alias.Goals as goal

-- the change was prepared
pub settle_alias-requires : goal.settle_alias-requires
settle_alias-requires g c = of-some _ c.args.change c.in-Some.change c.in-Some.is c.requires
