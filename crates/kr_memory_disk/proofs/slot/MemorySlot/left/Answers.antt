use Rattle.std.proofs.Common.{rules, ◌≡◌, None, Some, sym, subst}
use Rattle.kr_memory_disk.specs.Slot.{disk_of, slot_may_leave, slot_left}
use Rattle.kr_memory_disk.proofs.LeftLemmas.{picked_leaves}
use Rattle.kr_memory_disk.proofs.slot.MemorySlot.left.Goals as goal

-- a crash may leave what the number picks
pub returns-in-None-clause-may : goal.returns-in-None-clause-may
returns-in-None-clause-may c =
    let is : None ≡ slot_left c.args.self.now c.args.choice = search rules in
    subst (λ left. slot_may_leave c.args.self.now left) (sym is) (picked_leaves (disk_of c.args.self.now) c.args.choice)

pub returns-in_ok-from_slice-in-Some-clause-may : goal.returns-in_ok-from_slice-in-Some-clause-may
returns-in_ok-from_slice-in-Some-clause-may c =
    let is : Some c.in_ok-from_slice-in-Some.field-0 ≡ slot_left c.args.self.now c.args.choice = search rules in
    subst (λ left. slot_may_leave c.args.self.now left) (sym is) (picked_leaves (disk_of c.args.self.now) c.args.choice)
