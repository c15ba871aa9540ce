use Rattle.std.proofs.Common.{◌≡◌, ℕ, List, [], ◌∷◌, ◌++◌, IsTrue, Some, None, refl, sym, ◌∙◌, ap, subst, rules, append-nil}
use Rattle.folder_store.proofs.WalkLemmas.{Stays-none}
use Rattle.ring_check.specs.Batches.{IsUpTo}
use Rattle.ring_check.specs.Verdict.{password_in}
use Rattle.ring_check.proofs.BatchLemmas.{front_now, keeps_none, on_err_from, stopped_here}
use Rattle.ring_check.proofs.FindsLemmas.{bytes_for, finds_none, finds_one, finds-some, on_ok_from}
use Rattle.ring_check.proofs.LookLemmas.{looks_nothing}
use Rattle.ring_check.proofs.checking.visit.Goals as goal

-- nothing was done
pub returns-in_err-label-clause-front : goal.returns-in_err-label-clause-front
returns-in_err-label-clause-front g c start files up_to =
    let folder = g.F.Folder in
    let some = finds-some (folder.is_honest c.args.folder.now) (folder.images c.args.folder.now) (c.args.name.now ∷ []) in
    stopped_here _ _ _ _ (password_in c.args.password) start (g.O.Sink.written c.args.output.now) files some.0 some.1
    (front_now (password_in c.args.password) start (g.O.Sink.written c.args.output.now) (g.O.Sink.written c.args.output.now) c.args.batch.now files up_to some.0)

pub returns-in_err-label-clause-looks : goal.returns-in_err-label-clause-looks
returns-in_err-label-clause-looks g c = looks_nothing _ _ _ _ _ _ refl refl

pub returns-in_err-label-clause-stays : goal.returns-in_err-label-clause-stays
returns-in_err-label-clause-stays g c is = Stays-none g.F.Folder.images g.F.Folder.may_leave _ _

pub returns-in_err-label-clause-kept : goal.returns-in_err-label-clause-kept
returns-in_err-label-clause-kept g c =
    keeps_none g.O.Sink.faults g.O.Sink.is_steady g.O.Sink.is_closed _ c.args.output.now c.requires.is_open (λ same. search rules)

-- the file couldn't be looked at
pub returns-in_err-found-clause-front : goal.returns-in_err-found-clause-front
returns-in_err-found-clause-front g c start files up_to =
    let folder = g.F.Folder in
    let some = finds-some (folder.is_honest c.args.folder.now) (folder.images c.args.folder.now) (c.args.name.now ∷ []) in
    stopped_here _ _ _ _ (password_in c.args.password) start (g.O.Sink.written c.args.output.now) files some.0 some.1
    (front_now (password_in c.args.password) start (g.O.Sink.written c.args.output.now) (g.O.Sink.written c.args.output.now) c.args.batch.now files up_to some.0)

pub returns-in_err-found-clause-kept : goal.returns-in_err-found-clause-kept
returns-in_err-found-clause-kept g c =
    keeps_none g.O.Sink.faults g.O.Sink.is_steady g.O.Sink.is_closed _ c.args.output.now c.requires.is_open (λ same. c.look_at.ensures.no_write (search rules))

-- the file is added
pub returns-in-Some-clause-up_to : goal.returns-in-Some-clause-up_to
returns-in-Some-clause-up_to g c start files up_to =
    let folder = g.F.Folder in
    let honest = folder.is_honest c.args.folder.now in
    let images = folder.images c.args.folder.now in
    let b = bytes_for honest (images c.args.name.now) c.in-Some.found (λ is. rw c.in-Some.is at (c.in_ok-found.ensures.found is)) in
    on_ok_from c.add.result _ _ (c.add.ensures.up_to start files b.0 up_to b.2)
    (λ up. ((c.in_ok-label.label, b.0) ∷ [], finds_one honest images c.args.name.now c.in_ok-label.label b.0 c.in_ok-label.ensures b.1, up))

pub returns-in-Some-clause-front : goal.returns-in-Some-clause-front
returns-in-Some-clause-front g c start files up_to =
    let folder = g.F.Folder in
    let honest = folder.is_honest c.args.folder.now in
    let images = folder.images c.args.folder.now in
    let b = bytes_for honest (images c.args.name.now) c.in-Some.found (λ is. rw c.in-Some.is at (c.in_ok-found.ensures.found is)) in
    on_err_from c.add.result _ _ (c.add.ensures.front start files b.0 up_to b.2)
    (λ front. ((c.in_ok-label.label, b.0) ∷ [], finds_one honest images c.args.name.now c.in_ok-label.label b.0 c.in_ok-label.ensures b.1, front))

pub returns-in-Some-clause-cause : goal.returns-in-Some-clause-cause
returns-in-Some-clause-cause g c same = absurd (c.add.ensures.no_folder same)

-- there is no file
pub returns-in-None-clause-up_to : goal.returns-in-None-clause-up_to
returns-in-None-clause-up_to g c start files up_to =
    let folder = g.F.Folder in (
      [],
      finds_none (folder.is_honest c.args.folder.now) (folder.images c.args.folder.now) c.args.name.now (λ is. rw c.in-None.is at (c.in_ok-found.ensures.found is)),
      subst (λ l. IsUpTo (password_in c.args.password) start (g.O.Sink.written c.args.output.now) c.args.batch.now l) (sym (append-nil files)) up_to,
    )

pub returns-in-None-clause-kept : goal.returns-in-None-clause-kept
returns-in-None-clause-kept g c =
    keeps_none g.O.Sink.faults g.O.Sink.is_steady g.O.Sink.is_closed _ c.args.output.now c.requires.is_open (λ same. absurd (let never : ⊥ = cc in never))
