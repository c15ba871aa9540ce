use Rattle.std.proofs.Common.{rules}
use Rattle.std.proofs.lemmas.Fn.{filter_same}
use Rattle.ring_check.proofs.names.keep_checked.Goals as goal

-- the closure only tests
pub returns : goal.returns
returns c = filter_same _ _ _ (λ x b f t. search rules) _ _ c.retain.ensures.filtered
