use Rattle.std.proofs.Common.{◌∙◌}
use Rattle.replace_slot.proofs.CrashLemmas.{renamed_for_good}
use Rattle.replace_slot.proofs.steps.publish.Goals as goal

-- the temporary file was synced, so after the sync of the folder a crash leaves just its bytes
pub returns-clause-stored : goal.returns-clause-stored
returns-clause-stored g c old bytes honest only is =
    renamed_for_good old bytes _ _ _ _ _ c.sync_folder.result only is (c.in_ok-rename.ensures.renamed honest)
    (c.rename.ensures.crash honest) (c.sync_folder.ensures.settled (c.rename.ensures.call.kept.honest ∙ honest))
