use Rattle.std.proofs.Common.{◌≡◌, ◌+◌, ◌∷◌, ◌++◌, [], List, ℕ, IsTrue, IsErrOf, rules, Contains, suc, take, drop, length, get_or, refl, sym, subst, ap, ◌∙◌, arith, take-append-drop, append_assoc}
use Rattle.std.proofs.lemmas.List.{take_all}
use Rattle.std.proofs.Math.Seq.{take-suc}
use Rattle.folder_store.proofs.WalkLemmas.{not_before}
use Rattle.ring_check.specs.Batches.{Finds, IsUpTo}
use Rattle.ring_check.specs.Verdict.{password_in}
use Rattle.ring_check.proofs.BatchLemmas.{front_longer, keeps_then, keeps_for, stopped_all}
use Rattle.ring_check.proofs.WalkLemmas.{Walked, walked_none, walked_more, walked_looks, stopped_front, stopped_looks}
use Rattle.ring_check.proofs.checking.walk.Goals as goal

pub visit-requires : goal.visit-requires
visit-requires g c = (
  c.type_bounds.sync-R,
  (
    λ honest has. not_before c.args.names.now c.loop-name.name-index c.name-item.result c.requires.sorted c.loop-name-test.true (sym c.name-item.is)
        (c.loop-name.invariant.among c.name-item.result has),
    c.loop-name.invariant.kept.is_open,
  ),
)

pub loop-name-init : goal.loop-name-init
loop-name-init g c =
    let folder = g.F.Folder in
    let slot = g.F.Cell.Slot in
    let sink = g.O.Sink in
    walked_none folder.is_honest folder.is_steady folder.faults folder.images folder.may_leave folder.made slot.seen slot.temporary slot.may_leave slot.is_honest slot.is_steady
    sink.written sink.faults sink.is_steady sink.is_closed (password_in c.args.password) c.args.folder.now c.args.output.now c.args.batch.now c.args.looked.now.items
    c.requires.fresh c.requires.none c.requires.empty c.requires.sound c.requires.is_open

-- one more name
pub loop-name-preserved : goal.loop-name-preserved
loop-name-preserved g c =
    let folder = g.F.Folder in
    let slot = g.F.Cell.Slot in
    let sink = g.O.Sink in
    let names = c.args.names.now in
    let index = c.loop-name.name-index in
    let old = c.args.folder.now in
    let start = c.args.output.now in
    let name = c.name-item.result in
    let up : index + 1 ≡ suc index = omega arith in
    let longer : take (index + 1) names ≡ take index names ++ name ∷ [] =
    ap (λ n. take n names) up ∙ take-suc names index name c.loop-name-test.true ∙ ap (λ n. take index names ++ n ∷ []) (sym c.name-item.is) in
    let w = c.loop-name.invariant in
    let v = c.in_ok-visit.ensures in
    let more = v.up_to (sink.written start) w.files w.up_to in
    subst (λ l. Walked folder.is_honest folder.is_steady folder.faults folder.images folder.may_leave folder.made slot.seen slot.temporary slot.may_leave slot.is_honest slot.is_steady
    sink.written sink.faults sink.is_steady sink.is_closed (password_in c.args.password) old start l c.visit.new.folder c.visit.new.batch c.visit.new.looked.items c.visit.new.output) (sym longer)
    (walked_more folder.is_honest folder.is_steady folder.faults folder.images folder.may_leave folder.made slot.seen slot.temporary slot.may_leave slot.is_honest slot.is_steady
    sink.written sink.faults sink.is_steady sink.is_closed (password_in c.args.password) old start (take index names) c.loop-name.folder c.loop-name.batch c.loop-name.looked.items c.loop-name.output w
    name (not_before names index name c.requires.sorted c.loop-name-test.true (sym c.name-item.is)) c.visit.new.folder c.visit.new.looked.items c.visit.new.output
    c.visit.new.batch more.0 more.1 more.2 v.looks v.stays v.honest v.steady v.count _ (λ same. search rules) v.kept)

pub returns-clause-up_to : goal.returns-clause-up_to
returns-clause-up_to g c =
    let folder = g.F.Folder in
    let w = c.loop-name.invariant in (
      w.files,
      subst (λ l. Finds (folder.is_honest c.args.folder.now) (folder.images c.args.folder.now) l w.files) (take_all c.loop-name.name-index c.args.names.now c.loop-name-test.false) w.finds,
      w.up_to,
    )

pub returns-clause-looks : goal.returns-clause-looks
returns-clause-looks g c =
    let folder = g.F.Folder in
    let slot = g.F.Cell.Slot in
    let sink = g.O.Sink in
    walked_looks folder.is_honest folder.is_steady folder.faults folder.images folder.may_leave folder.made slot.seen slot.temporary slot.may_leave slot.is_honest slot.is_steady
    sink.written sink.faults sink.is_steady sink.is_closed (password_in c.args.password) c.args.folder.now c.args.output.now _ c.loop-name.folder c.loop-name.batch c.loop-name.looked.items c.loop-name.output
    c.loop-name.invariant

pub returns-clause-count : goal.returns-clause-count
returns-clause-count g c = c.loop-name.invariant.count

pub returns-clause-kept : goal.returns-clause-kept
returns-clause-kept g c =
    keeps_for g.O.Sink.faults g.O.Sink.is_steady g.O.Sink.is_closed _ _ _ _ (λ same. absurd (let never : ⊥ = cc in never)) c.loop-name.invariant.kept

-- the check stopped at this name
pub returns-in_err-visit-clause-front : goal.returns-in_err-visit-clause-front
returns-in_err-visit-clause-front g c =
    let folder = g.F.Folder in
    let slot = g.F.Cell.Slot in
    let sink = g.O.Sink in
    let names = c.args.names.now in
    let index = c.loop-name.name-index in
    let old = c.args.folder.now in
    let start = c.args.output.now in
    let name = c.name-item.result in
    let up : index + 1 ≡ suc index = omega arith in
    let longer : take (index + 1) names ≡ take index names ++ name ∷ [] =
    ap (λ n. take n names) up ∙ take-suc names index name c.loop-name-test.true ∙ ap (λ n. take index names ++ n ∷ []) (sym c.name-item.is) in
    let whole : (take index names ++ name ∷ []) ++ drop (index + 1) names ≡ names = ap (λ l. l ++ drop (index + 1) names) (sym longer) ∙ take-append-drop (index + 1) names in
    let w = c.loop-name.invariant in
    let p = password_in c.args.password in
    let more = c.in_err-visit.ensures.front (sink.written start) w.files w.up_to in
    let found = stopped_front folder.is_honest folder.is_steady folder.faults folder.images folder.may_leave folder.made slot.seen slot.temporary slot.may_leave slot.is_honest slot.is_steady
    sink.written sink.faults sink.is_steady sink.is_closed p old start (take index names) c.loop-name.folder c.loop-name.batch c.loop-name.looked.items c.loop-name.output w
    name (not_before names index name c.requires.sorted c.loop-name-test.true (sym c.name-item.is)) c.visit.new.folder c.visit.new.looked.items c.visit.new.output
    (drop (index + 1) names) more.0 more.1 (λ later. front_longer p _ _ (w.files ++ more.0) later more.2) in
    stopped_all _ _ _ _ p (sink.written start) (sink.written c.visit.new.output) found.0 (subst (λ l. Finds (folder.is_honest old) (folder.images old) l found.0) whole found.1) found.2

pub returns-in_err-visit-clause-looks : goal.returns-in_err-visit-clause-looks
returns-in_err-visit-clause-looks g c =
    let folder = g.F.Folder in
    let slot = g.F.Cell.Slot in
    let sink = g.O.Sink in
    let names = c.args.names.now in
    let index = c.loop-name.name-index in
    let name = c.name-item.result in
    let v = c.in_err-visit.ensures in
    stopped_looks folder.is_honest folder.is_steady folder.faults folder.images folder.may_leave folder.made slot.seen slot.temporary slot.may_leave slot.is_honest slot.is_steady
    sink.written sink.faults sink.is_steady sink.is_closed (password_in c.args.password) c.args.folder.now c.args.output.now (take index names) c.loop-name.folder c.loop-name.batch c.loop-name.looked.items c.loop-name.output c.loop-name.invariant
    name (not_before names index name c.requires.sorted c.loop-name-test.true (sym c.name-item.is)) c.visit.new.folder c.visit.new.looked.items c.visit.new.output
    v.looks v.stays v.honest v.steady v.count

pub returns-in_err-visit-clause-count : goal.returns-in_err-visit-clause-count
returns-in_err-visit-clause-count g c = c.in_err-visit.ensures.count ∙ c.loop-name.invariant.count

pub returns-in_err-visit-clause-cause : goal.returns-in_err-visit-clause-cause
returns-in_err-visit-clause-cause g c same =
    let failed = c.visit.ensures.cause (search rules) in
    (failed.0, subst (λ b. ¬ (IsTrue b)) c.loop-name.invariant.as_steady failed.1)

pub returns-in_err-visit-clause-kept : goal.returns-in_err-visit-clause-kept
returns-in_err-visit-clause-kept g c =
    let sink = g.O.Sink in
    keeps_then sink.faults sink.is_steady sink.is_closed _ _ _ _ _ c.loop-name.invariant.kept
    (keeps_for sink.faults sink.is_steady sink.is_closed _ _ _ _ (λ same. search rules) c.visit.ensures.kept)
