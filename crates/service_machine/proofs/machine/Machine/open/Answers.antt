use Rattle.service_answers.specs.service_disk.proofs.UnusedLemmas.{free-loaded}
use Rattle.service_machine.proofs.SteadyLemmas.{loaded-steady}
use Rattle.service_machine.proofs.machine.Machine.open.Goals as goal

-- each slot is as steady as the folder
pub returns-clause-steady : goal.returns-clause-steady
returns-clause-steady g c = loaded-steady _ _ _ _ _ _ _ _ _ _ _ (λ image slot found. found.as_steady) c.in_ok-disk.ensures.loaded

-- each stem that isn't used is free once the folder was loaded
pub returns-clause-free : goal.returns-clause-free
returns-clause-free g c =
    free-loaded c.a_used_stem_is_in_the_list.ensures c.adding_a_stem_uses_it_alone.ensures _ _ _ _ _ _ _ g.F.Cell.Slot.is_honest g.F.Cell.Slot.may_leave _ _ _ c.in_ok-disk.ensures.loaded c.in_ok-disk.ensures.sound.stems
