use Rattle.std.proofs.Common.{◌∙◌}
use Rattle.session_table.proofs.KeyLemmas.{remove_key-only, remove_key-spelled}
use Rattle.session_table.proofs.keys.take.Goals as goal

-- a pair occurs once
pub returns-clause-others : goal.returns-clause-others
returns-clause-others c = c.remove.ensures.keys ∙ remove_key-spelled c.args.owner c.args.session c.args.keys.now.keys ∙ remove_key-only c.args.owner c.args.session c.args.keys.now.keys c.requires
