use Rattle.std.proofs.Common.{rules}
use Rattle.std.proofs.lemmas.Fn.{filter_same}
use Rattle.kr_memory_disk.proofs.files.take_out.Goals as goal

-- the closure only tests
pub returns-clause-others : goal.returns-clause-others
returns-clause-others c = filter_same _ _ _ (λ x b f t. search rules) _ _ c.retain.ensures.filtered
