use Rattle.std.proofs.Common.{◌≡◌, ◌⊎◌, inl, inr, ℕ, ◌≤◌, List, [], IsTrue, refl, sym, ◌∙◌, ap, subst, rules, arith}
use Rattle.std.proofs.KnownBytes.{Appends-nil}
use Rattle.folder_store.proofs.VisitLemmas.{whatever}
use Rattle.ring_check.specs.Batches.{Finds}
use Rattle.ring_check.specs.Verdict.{password_in}
use Rattle.ring_check.proofs.BatchLemmas.{end_whole, end_damage, end_front, keeps_none, keeps_then, keeps_for}
use Rattle.ring_check.proofs.EndLemmas.{rose_unsteady}
use Rattle.ring_check.proofs.FindsLemmas.{checked_since}
use Rattle.ring_check.proofs.WalkLemmas.{looks_names, looks_since}
use Rattle.ring_check.proofs.checking.check_all.Goals as goal

-- the names couldn't be listed
pub returns-in_err-names-clause-front : goal.returns-in_err-names-clause-front
returns-in_err-names-clause-front g c = whatever _ (inr (Appends-nil _))

pub returns-in_err-names-clause-looks : goal.returns-in_err-names-clause-looks
returns-in_err-names-clause-looks g c =
    let folder = g.F.Folder in
    let slot = g.F.Cell.Slot in
    let sink = g.O.Sink in
    let n = c.checked_names.ensures in
    looks_names folder.is_honest folder.is_steady folder.faults folder.images folder.may_leave folder.made slot.seen slot.temporary slot.may_leave slot.is_honest slot.is_steady
    sink.written sink.faults sink.is_steady sink.is_closed (password_in c.args.password) c.args.folder.now c.checked_names.new.folder c.args.looked.now.items c.requires.fresh n.made c.requires.none n.kept.honest n.kept.steady n.stays

pub returns-in_err-names-clause-later : goal.returns-in_err-names-clause-later
returns-in_err-names-clause-later g c = c.checked_names.ensures.kept.later

pub returns-in_err-names-clause-cause : goal.returns-in_err-names-clause-cause
returns-in_err-names-clause-cause g c same =
    let folder = g.F.Folder in
    let n = c.checked_names.ensures in
    let rose = n.kept.cause (search rules) in
    (inl rose, rose_unsteady _ _ _ _ (g.met.F.Folder.steady_below c.args.folder.now) n.kept.steady rose)

pub returns-in_err-names-clause-kept : goal.returns-in_err-names-clause-kept
returns-in_err-names-clause-kept g c =
    keeps_none g.O.Sink.faults g.O.Sink.is_steady g.O.Sink.is_closed _ c.args.output.now c.requires.is_open (λ same. c.checked_names.ensures.no_write (search rules))

-- the check stopped at a name
pub returns-in_err-walk-clause-front : goal.returns-in_err-walk-clause-front
returns-in_err-walk-clause-front g c =
    let folder = g.F.Folder in
    let n = c.in_ok-names.ensures in
    let front = c.in_err-walk.ensures.front in
    whatever _ (inl (
      front.0,
      checked_since (folder.is_honest c.checked_names.new.folder) (folder.is_honest c.args.folder.now) (folder.images c.checked_names.new.folder) (folder.images c.args.folder.now) c.in_ok-names.names.items front.0 n.kept.honest n.same
          (subst (λ l. Finds (folder.is_honest c.checked_names.new.folder) (folder.images c.checked_names.new.folder) l front.0) c.deref.ensures.value front.1) n.sorted n.named n.listed,
      front.2,
    ))

pub returns-in_err-walk-clause-looks : goal.returns-in_err-walk-clause-looks
returns-in_err-walk-clause-looks g c =
    let folder = g.F.Folder in
    let slot = g.F.Cell.Slot in
    let sink = g.O.Sink in
    let n = c.checked_names.ensures in
    looks_since folder.is_honest folder.is_steady folder.faults folder.images folder.may_leave folder.made slot.seen slot.temporary slot.may_leave slot.is_honest slot.is_steady
    sink.written sink.faults sink.is_steady sink.is_closed (password_in c.args.password) c.args.folder.now c.checked_names.new.folder c.walk.new.folder c.walk.new.looked.items c.requires.fresh n.kept.honest n.kept.steady n.stays c.walk.ensures.looks

pub returns-in_err-walk-clause-later : goal.returns-in_err-walk-clause-later
returns-in_err-walk-clause-later g c = omega (arith, c.checked_names.ensures.kept.later, c.walk.ensures.count)

pub returns-in_err-walk-clause-cause : goal.returns-in_err-walk-clause-cause
returns-in_err-walk-clause-cause g c same =
    let failed = c.walk.ensures.cause (search rules) in
    (inr failed.0, subst (λ b. ¬ (IsTrue b)) c.checked_names.ensures.kept.steady.same failed.1)

pub returns-in_err-walk-clause-kept : goal.returns-in_err-walk-clause-kept
returns-in_err-walk-clause-kept g c =
    keeps_for g.O.Sink.faults g.O.Sink.is_steady g.O.Sink.is_closed _ _ _ _ (λ same. search rules) c.walk.ensures.kept

-- the last batch couldn't be judged or written
pub returns-in_err-flush-clause-front : goal.returns-in_err-flush-clause-front
returns-in_err-flush-clause-front g c =
    let folder = g.F.Folder in
    let n = c.in_ok-names.ensures in
    let w = c.in_ok-walk.ensures.up_to in
    whatever _ (inl (
      w.0,
      checked_since (folder.is_honest c.checked_names.new.folder) (folder.is_honest c.args.folder.now) (folder.images c.checked_names.new.folder) (folder.images c.args.folder.now) c.in_ok-names.names.items w.0 n.kept.honest n.same
          (subst (λ l. Finds (folder.is_honest c.checked_names.new.folder) (folder.images c.checked_names.new.folder) l w.0) c.deref.ensures.value w.1) n.sorted n.named n.listed,
      end_front (password_in c.args.password) _ _ _ c.walk.new.batch w.0 w.2 c.in_err-flush.ensures.front,
    ))

pub returns-in_err-flush-clause-looks : goal.returns-in_err-flush-clause-looks
returns-in_err-flush-clause-looks g c =
    let folder = g.F.Folder in
    let slot = g.F.Cell.Slot in
    let sink = g.O.Sink in
    let n = c.checked_names.ensures in
    looks_since folder.is_honest folder.is_steady folder.faults folder.images folder.may_leave folder.made slot.seen slot.temporary slot.may_leave slot.is_honest slot.is_steady
    sink.written sink.faults sink.is_steady sink.is_closed (password_in c.args.password) c.args.folder.now c.checked_names.new.folder c.walk.new.folder c.walk.new.looked.items c.requires.fresh n.kept.honest n.kept.steady n.stays c.walk.ensures.looks

pub returns-in_err-flush-clause-later : goal.returns-in_err-flush-clause-later
returns-in_err-flush-clause-later g c = omega (arith, c.checked_names.ensures.kept.later, c.walk.ensures.count)

pub returns-in_err-flush-clause-cause : goal.returns-in_err-flush-clause-cause
returns-in_err-flush-clause-cause g c same = absurd (c.flush.ensures.no_folder (search rules))

pub returns-in_err-flush-clause-kept : goal.returns-in_err-flush-clause-kept
returns-in_err-flush-clause-kept g c =
    let sink = g.O.Sink in
    keeps_then sink.faults sink.is_steady sink.is_closed _ _ _ _ _ c.walk.ensures.kept
    (keeps_for sink.faults sink.is_steady sink.is_closed _ _ _ _ (λ same. search rules) c.flush.ensures.kept)

-- all lines were written
pub returns-clause-whole : goal.returns-clause-whole
returns-clause-whole g c =
    let folder = g.F.Folder in
    let n = c.in_ok-names.ensures in
    let w = c.in_ok-walk.ensures.up_to in
    let f = c.in_ok-flush.ensures in
    let p = password_in c.args.password in (
      w.0,
      checked_since (folder.is_honest c.checked_names.new.folder) (folder.is_honest c.args.folder.now) (folder.images c.checked_names.new.folder) (folder.images c.args.folder.now) c.in_ok-names.names.items w.0 n.kept.honest n.same
          (subst (λ l. Finds (folder.is_honest c.checked_names.new.folder) (folder.images c.checked_names.new.folder) l w.0) c.deref.ensures.value w.1) n.sorted n.named n.listed,
      end_whole p _ _ _ c.walk.new.batch w.0 w.2 f.whole,
      end_damage p _ _ (g.O.Sink.written c.flush.new.output) c.walk.new.batch w.0 w.2 _ f.damaged,
    )

pub returns-clause-looks : goal.returns-clause-looks
returns-clause-looks g c =
    let folder = g.F.Folder in
    let slot = g.F.Cell.Slot in
    let sink = g.O.Sink in
    let n = c.checked_names.ensures in
    looks_since folder.is_honest folder.is_steady folder.faults folder.images folder.may_leave folder.made slot.seen slot.temporary slot.may_leave slot.is_honest slot.is_steady
    sink.written sink.faults sink.is_steady sink.is_closed (password_in c.args.password) c.args.folder.now c.checked_names.new.folder c.walk.new.folder c.walk.new.looked.items c.requires.fresh n.kept.honest n.kept.steady n.stays c.walk.ensures.looks

pub returns-clause-later : goal.returns-clause-later
returns-clause-later g c = omega (arith, c.checked_names.ensures.kept.later, c.walk.ensures.count)

pub returns-clause-kept : goal.returns-clause-kept
returns-clause-kept g c =
    let sink = g.O.Sink in
    keeps_then sink.faults sink.is_steady sink.is_closed _ _ _ _ _ c.walk.ensures.kept
    (keeps_for sink.faults sink.is_steady sink.is_closed _ _ _ _ (λ same. absurd (let never : ⊥ = cc in never)) c.flush.ensures.kept)
