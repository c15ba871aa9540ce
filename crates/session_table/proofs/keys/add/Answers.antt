use Rattle.std.proofs.Common.{◌∙◌}
use Rattle.session_table.proofs.KeyLemmas.{insert_key-new}
use Rattle.session_table.proofs.keys.add.Goals as goal

-- a new pair comes after all others of its owner
pub returns-clause-added : goal.returns-clause-added
returns-clause-added c = c.in_ok-insert.ensures.keys ∙ insert_key-new _ _ _ c.requires.ordered c.requires.given
