use Rattle.std.proofs.Common.{◌≡◌, ◌+◌, ◌∷◌, ◌++◌, [], IsTrue, IsErrOf, rules, Contains, suc, take, get_or, refl, sym, subst, ap, ◌∙◌, arith}
use Rattle.std.proofs.lemmas.List.{take_all}
use Rattle.std.proofs.Math.Seq.{take-suc}
use Rattle.kr_outside.specs.RenameDisk.{Image, Only}
use Rattle.folder_store.specs.declared.refused.LoadRefused.TheVariants.{Folder}
use Rattle.folder_store.specs.Ring.{IsAsFound, HandsBack, HasFailedSlot, ReturnsAll, nothing}
use Rattle.folder_store.specs.Walk.{Walk, Visits, plain}
use Rattle.folder_store.proofs.VisitLemmas.{whatever}
use Rattle.folder_store.proofs.WalkLemmas.{Walk-none, Walk-more, not_before, Stays-none, Stays-trans, one_fewer}
use Rattle.folder_store.proofs.loading.walk.Goals as goal

pub visit-requires : goal.visit-requires
visit-requires g c = record {
  settled = λ honest.
      let folder = g.F.Folder in
      let mid = c.loop-name.folder in
      let name = c.as_str.result.now in
      let here : get_or c.args.names.now c.loop-name.name-index name ≡ name =
      subst (λ r. get_or c.args.names.now c.loop-name.name-index r ≡ r) (sym c.as_str.ensures.value) (sym c.name-item.is) in
      let walk = c.loop-name.invariant.0 in
      let is : IsTrue (folder.is_honest c.args.folder.now) = subst (λ b. IsTrue b) c.loop-name.invariant.2 honest in
      let off : ¬ (Contains (folder.made mid) name) =
      λ has. not_before c.args.names.now c.loop-name.name-index name c.requires.sorted c.loop-name-test.true here (walk.slots name has).0 in
      (off, subst (λ (i : Image). Only i (folder.may_leave mid name)) (sym (walk.same is name off)) (walk.settled is name off));
}

pub loop-name-init : goal.loop-name-init
loop-name-init g c =
    let folder = g.F.Folder in
    let slot = g.F.Cell.Slot in (
      subst (λ o. Walk c.args.limits.now (folder.is_honest c.args.folder.now) folder.images folder.may_leave folder.made c.args.folder.now c.args.folder.now [] (plain o))
          (sym c.requires.empty)
          (Walk-none c.args.limits.now (folder.is_honest c.args.folder.now) folder.images folder.may_leave folder.made c.args.folder.now c.requires.fresh c.requires.settled),
      λ images same.
          let found = IsAsFound slot.seen slot.temporary slot.may_leave slot.left_since slot.is_honest slot.is_steady (folder.is_honest c.args.folder.now) (folder.is_steady c.args.folder.now) in
          subst (λ m. HandsBack found images m c.args.opening.now.rings c.args.opening.now.left) (sym c.requires.fresh)
          (subst (λ o. HandsBack found images [] o.rings o.left) (sym c.requires.empty) nothing),
      refl,
      refl,
      refl,
      λ is. Stays-none folder.images folder.may_leave (folder.made c.args.folder.now) c.args.folder.now,
      ap (λ o. o.last) c.requires.empty,
      λ none_failed. none_failed,
    )

-- one more name
pub loop-name-preserved : goal.loop-name-preserved
loop-name-preserved g c =
    let folder = g.F.Folder in
    let slot = g.F.Cell.Slot in
    let names = c.args.names.now in
    let index = c.loop-name.name-index in
    let old = c.args.folder.now in
    let mid = c.loop-name.folder in
    let new = c.visit.new.folder in
    let name = c.as_str.result.now in
    let here : get_or names index name ≡ name = subst (λ r. get_or names index r ≡ r) (sym c.as_str.ensures.value) (sym c.name-item.is) in
    let up : index + 1 ≡ suc index = omega arith in
    let longer : take (index + 1) names ≡ take index names ++ name ∷ [] =
    ap (λ n. take n names) up ∙ take-suc names index name c.loop-name-test.true ∙ ap (λ n. take index names ++ n ∷ []) here in
    let as_honest = c.loop-name.invariant.2 in
    let as_steady = c.loop-name.invariant.3 in
    let found = IsAsFound slot.seen slot.temporary slot.may_leave slot.left_since slot.is_honest slot.is_steady in (
      subst (λ l. Walk c.args.limits.now (folder.is_honest old) folder.images folder.may_leave folder.made old new l (plain c.visit.new.opening)) (sym longer)
          (Walk-more c.args.limits.now (folder.is_honest old) folder.images folder.may_leave folder.made old mid new (take index names) name c.loop-name.opening c.visit.new.opening
          c.loop-name.invariant.0
          (λ is. c.requires.listed is name (index, c.loop-name-test.true, here))
          (not_before names index name c.requires.sorted c.loop-name-test.true here)
          (subst (λ b. Visits c.args.limits.now b (folder.images mid name) name (folder.made mid) (folder.made new) c.loop-name.opening c.visit.new.opening) as_honest c.in_ok-visit.ensures.visited)
          (λ is. c.in_ok-visit.ensures.stays (subst (λ b. IsTrue b) (sym as_honest) is))),
      λ images same.
          let off = not_before names index name c.requires.sorted c.loop-name-test.true here in
          let walk = c.loop-name.invariant.0 in
          let still : IsTrue (folder.is_honest mid) → images name ≡ folder.images mid name =
          λ is. let was : IsTrue (folder.is_honest old) = subst (λ b. IsTrue b) as_honest is in
          same was name ∙ sym (walk.same was name (λ has. off (walk.slots name has).0)) in
          subst (λ b. HandsBack (found (folder.is_honest old) b) images (folder.made new) c.visit.new.opening.rings c.visit.new.opening.left) as_steady
          (subst (λ b. HandsBack (found b (folder.is_steady mid)) images (folder.made new) c.visit.new.opening.rings c.visit.new.opening.left) as_honest
          (c.in_ok-visit.ensures.handed images still
          (subst (λ b. HandsBack (found b (folder.is_steady mid)) images (folder.made mid) c.loop-name.opening.rings c.loop-name.opening.left) (sym as_honest)
          (subst (λ b. HandsBack (found (folder.is_honest old) b) images (folder.made mid) c.loop-name.opening.rings c.loop-name.opening.left) (sym as_steady) (c.loop-name.invariant.1 images same))))),
      c.in_ok-visit.ensures.honest ∙ as_honest,
      c.in_ok-visit.ensures.steady ∙ as_steady,
      c.in_ok-visit.ensures.count ∙ c.loop-name.invariant.4,
      λ is. Stays-trans folder.images folder.may_leave (folder.made mid) (folder.made new) old mid new
          (one_fewer name (folder.made mid) (folder.made new) c.in_ok-visit.ensures.made) (c.loop-name.invariant.5 is)
          (c.in_ok-visit.ensures.stays (subst (λ b. IsTrue b) (sym as_honest) is)),
      c.in_ok-visit.ensures.last ∙ c.loop-name.invariant.6,
      λ none_failed. c.in_ok-visit.ensures.fault (c.loop-name.invariant.7 none_failed) (λ is. let never : ⊥ = cc in never),
    )

pub returns-clause-walked : goal.returns-clause-walked
returns-clause-walked g c =
    let folder = g.F.Folder in
    subst (λ l. Walk c.args.limits.now (folder.is_honest c.args.folder.now) folder.images folder.may_leave folder.made c.args.folder.now c.loop-name.folder l (plain c.loop-name.opening))
    (take_all c.loop-name.name-index c.args.names.now c.loop-name-test.false) c.loop-name.invariant.0

-- a slot failed in this step
pub returns-in_err-visit-clause-cause : goal.returns-in_err-visit-clause-cause
returns-in_err-visit-clause-cause g c images same is =
    let folder = g.F.Folder in
    let slot = g.F.Cell.Slot in
    let names = c.args.names.now in
    let index = c.loop-name.name-index in
    let old = c.args.folder.now in
    let mid = c.loop-name.folder in
    let new = c.visit.new.folder in
    let name = c.as_str.result.now in
    let here : get_or names index name ≡ name = subst (λ r. get_or names index r ≡ r) (sym c.as_str.ensures.value) (sym c.name-item.is) in
    let as_honest = c.loop-name.invariant.2 in
    let as_steady = c.loop-name.invariant.3 in
    let found = IsAsFound slot.seen slot.temporary slot.may_leave slot.left_since slot.is_honest slot.is_steady in
    let off = not_before names index name c.requires.sorted c.loop-name-test.true here in
    let walk = c.loop-name.invariant.0 in
    let still : IsTrue (folder.is_honest mid) → images name ≡ folder.images mid name =
    λ honest. let was : IsTrue (folder.is_honest old) = subst (λ b. IsTrue b) as_honest honest in
    same was name ∙ sym (walk.same was name (λ has. off (walk.slots name has).0)) in
    let failed : IsErrOf c.visit.result Folder = search rules in
    subst (λ b. HasFailedSlot (found (folder.is_honest old) b) images (folder.made new) slot.faults slot.failed b) as_steady
    (subst (λ b. HasFailedSlot (found b (folder.is_steady mid)) images (folder.made new) slot.faults slot.failed (folder.is_steady mid)) as_honest
    (c.visit.ensures.cause images still failed))

-- the load stops in this step
pub returns-in_err-visit-clause-returned : goal.returns-in_err-visit-clause-returned
returns-in_err-visit-clause-returned g c images same =
    let folder = g.F.Folder in
    let slot = g.F.Cell.Slot in
    let names = c.args.names.now in
    let index = c.loop-name.name-index in
    let old = c.args.folder.now in
    let mid = c.loop-name.folder in
    let new = c.visit.new.folder in
    let opening = c.visit.new.opening in
    let name = c.as_str.result.now in
    let here : get_or names index name ≡ name = subst (λ r. get_or names index r ≡ r) (sym c.as_str.ensures.value) (sym c.name-item.is) in
    let as_honest = c.loop-name.invariant.2 in
    let as_steady = c.loop-name.invariant.3 in
    let found = IsAsFound slot.seen slot.temporary slot.may_leave slot.left_since slot.is_honest slot.is_steady in
    let off = not_before names index name c.requires.sorted c.loop-name-test.true here in
    let walk = c.loop-name.invariant.0 in
    let still : IsTrue (folder.is_honest mid) → images name ≡ folder.images mid name =
    λ honest. let was : IsTrue (folder.is_honest old) = subst (λ b. IsTrue b) as_honest honest in
    same was name ∙ sym (walk.same was name (λ has. off (walk.slots name has).0)) in
    whatever _ (subst (λ b. ReturnsAll (found (folder.is_honest old) b) images (folder.made new) opening.rings opening.left opening.last) as_steady
    (subst (λ b. ReturnsAll (found b (folder.is_steady mid)) images (folder.made new) opening.rings opening.left opening.last) as_honest
    (c.in_err-visit.ensures.returned images still
    (subst (λ b. HandsBack (found b (folder.is_steady mid)) images (folder.made mid) c.loop-name.opening.rings c.loop-name.opening.left) (sym as_honest)
    (subst (λ b. HandsBack (found (folder.is_honest old) b) images (folder.made mid) c.loop-name.opening.rings c.loop-name.opening.left) (sym as_steady) (c.loop-name.invariant.1 images same)))
    c.loop-name.invariant.6)))

pub returns-in_err-visit-clause-others : goal.returns-in_err-visit-clause-others
returns-in_err-visit-clause-others g c is =
    let folder = g.F.Folder in
    let old = c.args.folder.now in
    let mid = c.loop-name.folder in
    let new = c.visit.new.folder in
    Stays-trans folder.images folder.may_leave (folder.made mid) (folder.made new) old mid new
    (one_fewer c.as_str.result.now (folder.made mid) (folder.made new) c.in_err-visit.ensures.made) (c.loop-name.invariant.5 is)
    (c.in_err-visit.ensures.stays (subst (λ b. IsTrue b) (sym c.loop-name.invariant.2) is))
