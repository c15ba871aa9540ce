use Rattle.std.proofs.Common.{◌/◌, ◌∙◌, List, ℕ, refl, sym, ap}
use Rattle.kr_memory_disk.specs.Slot.{SlotState, slot_left, slot_count_left}
use Rattle.kr_memory_disk.proofs.CrashLemmas.{IsCrashed-none, IsCrashed-more, IsPicked-none, IsPicked-more, number_behind-more}
use Rattle.kr_memory_disk.proofs.folder.crashed.Goals as goal

pub loop-name-init : goal.loop-name-init
loop-name-init c = (IsPicked-none _ c.args.choice, IsCrashed-none _, refl)

-- one more slot
pub loop-name-preserved : goal.loop-name-preserved
loop-name-preserved c =
    let slot : List ℕ × SlotState = (c.in-Some.name, c.in-Some.slot) in
    let (picked, crashed, behind) = c.loop-name.invariant in (
      IsPicked-more c.args.files c.loop-name.files c.set.new.self c.loop-name.yielded slot c.args.choice picked (c.in_ok-set.ensures.set ∙ c.in_ok-image.ensures.picked ∙ ap (λ n. slot_left c.in-Some.slot n) behind) (λ other differs. c.in_ok-set.ensures.others other differs),
      IsCrashed-more c.args.files c.loop-name.files c.set.new.self c.loop-name.yielded slot c.in_ok-image.image crashed c.in_ok-image.ensures.may c.in_ok-set.ensures.set (λ other differs. c.in_ok-set.ensures.others other differs),
      ap (λ n. c.loop-name.choice / n) c.in_ok-choice.ensures ∙ ap (λ n. n / slot_count_left c.in-Some.slot) behind ∙ sym (number_behind-more c.loop-name.yielded slot c.args.choice),
    )
