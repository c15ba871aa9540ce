use Rattle.std.proofs.Common.{◌∙◌}
use Rattle.replace_slot.proofs.CrashLemmas.{removed_for_good}
use Rattle.replace_slot.proofs.steps.retire.Goals as goal

-- a crash could leave only the old image or no file
pub returns-clause-removed : goal.returns-clause-removed
returns-clause-removed g c old honest only =
    removed_for_good old _ _ _ _ c.sync_folder.result only (c.in_ok-remove.ensures.removed honest)
    (c.remove.ensures.crash honest) (c.sync_folder.ensures.settled (c.remove.ensures.call.kept.honest ∙ honest))
