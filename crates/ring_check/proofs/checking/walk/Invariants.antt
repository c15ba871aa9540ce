use Rattle.std.proofs.Common.{take}
use Rattle.ring_check.specs.Verdict.{password_in}
use Rattle.ring_check.proofs.WalkLemmas.{Walked}
use Rattle.ring_check.proofs.checking.walk.Given as goal

-- the names that were looked at so far
abbrev pub invariant-loop-name : goal.invariant-loop-name
invariant-loop-name g l =
    let folder = g.F.Folder in
    let slot = g.F.Cell.Slot in
    let sink = g.O.Sink in
    Walked folder.is_honest folder.is_steady folder.faults folder.images folder.may_leave folder.made slot.seen slot.temporary slot.may_leave slot.is_honest slot.is_steady
    sink.written sink.faults sink.is_steady sink.is_closed (password_in l.password) l.fn.folder l.fn.output (take l.name-index l.names) l.folder l.batch l.looked.items l.output
