use Rattle.std.proofs.lemmas.List.Elements.{All-nil}
use Rattle.std.proofs.lemmas.List.Sorted.{All-permutation}
use Rattle.std.proofs.Common.{All, None, ◌≡◌, ◌↔◌, ℕ, List, Contains, IsTrue, IsErrOf, inr, rules, [], refl, IsSome, sym, ap, subst, ◌∙◌}
use Rattle.std.specs.Cmp.Lexicographic.{slice_cmp}
use Rattle.std.specs.List.Sorted.{IsPermutation, IsStrictlySortedBy}
use Rattle.std.specs.Ordering.{nat_cmp}
use Rattle.kr_outside.specs.Folder.{Stays}
use Rattle.folder_store.specs.declared.refused.LoadRefused.TheVariants.{Folder}
use Rattle.folder_store.specs.Names.{aliases}
use Rattle.folder_store.specs.Aliases.{AreFound, alias_slot}
use Rattle.folder_store.specs.Ring.{IsAsFound, HandsBack, HasFailedSlot, NoneFailed, ReturnsAll, nothing}
use Rattle.folder_store.specs.Walk.{Walk, plain}
use Rattle.folder_store.proofs.LoadLemmas.{aliases_alone, off_way, Loads-made}
use Rattle.folder_store.proofs.VisitLemmas.{found_same, stops_before, whatever}
use Rattle.folder_store.proofs.WalkLemmas.{Stays-trans, one_fewer, none_fewer}
use Rattle.folder_store.proofs.loading.load_into.Goals as goal

pub load_aliases-requires : goal.load_aliases-requires
load_aliases-requires g c = record {
  settled = λ honest.
      let folder = g.F.Folder in
      let slot = g.F.Cell.Slot in
      let one = c.settled_names.new.folder in
      let found = IsAsFound slot.seen slot.temporary slot.may_leave slot.left_since slot.is_honest slot.is_steady (folder.is_honest one) (folder.is_steady one) in
      aliases_alone c.args.limits.now found (folder.is_honest one) folder.images folder.may_leave folder.made
      one c.walk.new.folder c.deref.result.now c.walk.new.opening c.in_ok-walk.ensures.walked
      (subst (λ b. IsTrue b) c.in_ok-walk.ensures.honest honest);
}

pub returns-clause-loaded : goal.returns-clause-loaded
returns-clause-loaded g c =
    let folder = g.F.Folder in
    let slot = g.F.Cell.Slot in
    let zero = c.args.folder.now in
    let one = c.settled_names.new.folder in
    let two = c.walk.new.folder in
    let names : c.deref.result.now ≡ c.in_ok-names.names.items = c.deref.ensures.value in
    let honest_one : folder.is_honest one ≡ folder.is_honest zero = c.in_ok-names.ensures.kept.honest in
    let steady_one : folder.is_steady one ≡ folder.is_steady zero = c.in_ok-names.ensures.kept.steady.same in
    let honest_two : folder.is_honest two ≡ folder.is_honest zero = c.in_ok-walk.ensures.honest ∙ honest_one in
    let steady_two : folder.is_steady two ≡ folder.is_steady zero = c.in_ok-walk.ensures.steady ∙ steady_one in
    let found = IsAsFound slot.seen slot.temporary slot.may_leave slot.left_since slot.is_honest slot.is_steady in
    let now = found (folder.is_honest zero) (folder.is_steady zero) in
    let first : IsTrue (folder.is_honest zero) → (name : List ℕ) → folder.images one name ≡ folder.images zero name = λ is name. c.in_ok-names.ensures.same is name in
    let opening = c.walk.new.opening in
    let walked = subst (λ b. Walk c.args.limits.now b folder.images folder.may_leave folder.made one two c.deref.result.now (plain opening)) honest_one c.in_ok-walk.ensures.walked in
    let whole : c.replace.result ≡ opening = c.replace.ensures.value ∙ c.in_ok-aliases.ensures.opening in
    let off = off_way c.args.limits.now now (folder.is_honest zero) folder.images folder.may_leave folder.made one two c.deref.result.now opening walked in
    Loads-made c.args.limits.now now (folder.is_honest zero) folder.images folder.may_leave folder.made
    zero one two c.load_aliases.new.folder c.deref.result.now opening _
    (subst (λ o. IsPermutation o.rings c.into_parts-rings.result.0.items) whole c.into_parts-rings.ensures.same) c.into_parts-rings.ensures.sorted
    (c.into_parts-rings.ensures.used ∙ ap (λ o. o.used) whole) (c.into_parts-rings.ensures.left ∙ ap (λ o. o.left) whole)
    (subst (λ l. IsStrictlySortedBy (slice_cmp nat_cmp) l) (sym names) c.in_ok-names.ensures.sorted)
    (λ is. subst (λ l. (name : List ℕ) → Contains l name ↔ IsSome (folder.images one name)) (sym names) (c.in_ok-names.ensures.listed is))
    first
    walked
    (subst (λ b. HandsBack (found (folder.is_honest zero) b) (folder.images zero) (folder.made two) opening.rings opening.left) steady_one
    (subst (λ b. HandsBack (found b (folder.is_steady one)) (folder.images zero) (folder.made two) opening.rings opening.left) honest_one
    (c.in_ok-walk.ensures.handed (folder.images zero) (λ is name. sym (first (subst (λ b. IsTrue b) honest_one is) name)))))
    (subst (λ b. AreFound b (folder.images two aliases) c.in_ok-aliases.aliases) honest_two c.in_ok-aliases.ensures.found)
    (found_same slot.seen slot.temporary slot.may_leave slot.left_since slot.is_honest slot.is_steady (folder.is_honest zero) (folder.is_steady zero)
    (folder.images two aliases) (folder.images zero aliases) (alias_slot c.in_ok-aliases.aliases)
    (λ is. walked.same is aliases off ∙ first is aliases)
    (subst (λ b. found (folder.is_honest zero) b (folder.images two aliases) (alias_slot c.in_ok-aliases.aliases)) steady_two
    (subst (λ b. found b (folder.is_steady two) (folder.images two aliases) (alias_slot c.in_ok-aliases.aliases)) honest_two c.in_ok-aliases.ensures.slot)))
    c.in_ok-aliases.ensures.made
    (λ is. c.in_ok-aliases.ensures.stays (subst (λ b. IsTrue b) (sym honest_two) is))

-- a slot failed while the names were gone through
pub returns-in_err-walk-clause-cause : goal.returns-in_err-walk-clause-cause
returns-in_err-walk-clause-cause g c is =
    let folder = g.F.Folder in
    let slot = g.F.Cell.Slot in
    let zero = c.args.folder.now in
    let one = c.settled_names.new.folder in
    let two = c.walk.new.folder in
    let honest_one : folder.is_honest one ≡ folder.is_honest zero = c.in_ok-names.ensures.kept.honest in
    let steady_one : folder.is_steady one ≡ folder.is_steady zero = c.in_ok-names.ensures.kept.steady.same in
    let found = IsAsFound slot.seen slot.temporary slot.may_leave slot.left_since slot.is_honest slot.is_steady in
    let failed : IsErrOf c.walk.result Folder = search rules in
    inr (subst (λ b. HasFailedSlot (found (folder.is_honest zero) b) (folder.images zero) (folder.made two) slot.faults slot.failed b) steady_one
    (subst (λ b. HasFailedSlot (found b (folder.is_steady one)) (folder.images zero) (folder.made two) slot.faults slot.failed (folder.is_steady one)) honest_one
    (c.walk.ensures.cause (folder.images zero) (λ honest name. sym (c.in_ok-names.ensures.same (subst (λ b. IsTrue b) honest_one honest) name)) failed)))

-- or the slot for the aliases failed
pub returns-in_err-aliases-clause-cause : goal.returns-in_err-aliases-clause-cause
returns-in_err-aliases-clause-cause g c is =
    let folder = g.F.Folder in
    let slot = g.F.Cell.Slot in
    let zero = c.args.folder.now in
    let one = c.settled_names.new.folder in
    let two = c.walk.new.folder in
    let three = c.load_aliases.new.folder in
    let honest_one : folder.is_honest one ≡ folder.is_honest zero = c.in_ok-names.ensures.kept.honest in
    let honest_two : folder.is_honest two ≡ folder.is_honest zero = c.in_ok-walk.ensures.honest ∙ honest_one in
    let steady_two : folder.is_steady two ≡ folder.is_steady zero = c.in_ok-walk.ensures.steady ∙ c.in_ok-names.ensures.kept.steady.same in
    let found = IsAsFound slot.seen slot.temporary slot.may_leave slot.left_since slot.is_honest slot.is_steady in
    let opening = c.walk.new.opening in
    let walked = subst (λ b. Walk c.args.limits.now b folder.images folder.may_leave folder.made one two c.deref.result.now (plain opening)) honest_one c.in_ok-walk.ensures.walked in
    let off = off_way c.args.limits.now (found (folder.is_honest zero) (folder.is_steady zero)) (folder.is_honest zero) folder.images folder.may_leave folder.made one two c.deref.result.now opening walked in
    let failed : IsErrOf c.load_aliases.result Folder = search rules in
    inr (subst (λ b. HasFailedSlot (found (folder.is_honest zero) b) (folder.images zero) (folder.made three) slot.faults slot.failed b) steady_two
    (subst (λ b. HasFailedSlot (found b (folder.is_steady two)) (folder.images zero) (folder.made three) slot.faults slot.failed (folder.is_steady two)) honest_two
    (c.load_aliases.ensures.cause (folder.images zero)
    (λ honest. let was = subst (λ b. IsTrue b) honest_two honest in sym (walked.same was aliases off ∙ c.in_ok-names.ensures.same was aliases)) failed)))

-- no slot of a steady folder fails
pub returns-in_err-walk-clause-never : goal.returns-in_err-walk-clause-never
returns-in_err-walk-clause-never g c steady is =
    let folder = g.F.Folder in
    let zero = c.args.folder.now in
    let one = c.settled_names.new.folder in
    let honest_one : folder.is_honest one ≡ folder.is_honest zero = c.in_ok-names.ensures.kept.honest in
    let steady_one : folder.is_steady one ≡ folder.is_steady zero = c.in_ok-names.ensures.kept.steady.same in
    let failed : IsErrOf c.walk.result Folder = search rules in
    (c.walk.ensures.cause (folder.images zero) (λ honest name. sym (c.in_ok-names.ensures.same (subst (λ b. IsTrue b) honest_one honest) name)) failed).unsteady
    (subst (λ b. IsTrue b) (sym steady_one) steady)

pub returns-in_err-aliases-clause-never : goal.returns-in_err-aliases-clause-never
returns-in_err-aliases-clause-never g c steady is =
    let folder = g.F.Folder in
    let two = c.walk.new.folder in
    let zero = c.args.folder.now in
    let steady_two : folder.is_steady two ≡ folder.is_steady zero = c.in_ok-walk.ensures.steady ∙ c.in_ok-names.ensures.kept.steady.same in
    let failed : IsErrOf c.load_aliases.result Folder = search rules in
    (c.load_aliases.ensures.cause (λ _. folder.images two aliases) (λ _. refl) failed).unsteady (subst (λ b. IsTrue b) (sym steady_two) steady)

-- no slot was made yet
pub returns-in_err-names-clause-returned : goal.returns-in_err-names-clause-returned
returns-in_err-names-clause-returned g c =
    let folder = g.F.Folder in
    let slot = g.F.Cell.Slot in
    let zero = c.args.folder.now in
    let found = IsAsFound slot.seen slot.temporary slot.may_leave slot.left_since slot.is_honest slot.is_steady (folder.is_honest zero) (folder.is_steady zero) in
    whatever _ (stops_before found (folder.images zero) [] _ c.args.opening.now c.args.opening.now c.in_err-names.ensures.made
    (subst (λ o. HandsBack found (folder.images zero) [] o.rings o.left) (sym c.requires.empty) nothing) (ap (λ o. o.last) c.requires.empty) refl refl refl)

-- the load stops among the names
pub returns-in_err-walk-clause-returned : goal.returns-in_err-walk-clause-returned
returns-in_err-walk-clause-returned g c =
    let folder = g.F.Folder in
    let slot = g.F.Cell.Slot in
    let zero = c.args.folder.now in
    let one = c.settled_names.new.folder in
    let two = c.walk.new.folder in
    let honest_one : folder.is_honest one ≡ folder.is_honest zero = c.in_ok-names.ensures.kept.honest in
    let steady_one : folder.is_steady one ≡ folder.is_steady zero = c.in_ok-names.ensures.kept.steady.same in
    let opening = c.walk.new.opening in
    let found = IsAsFound slot.seen slot.temporary slot.may_leave slot.left_since slot.is_honest slot.is_steady in
    whatever _ (subst (λ b. ReturnsAll (found (folder.is_honest zero) b) (folder.images zero) (folder.made two) opening.rings opening.left opening.last) steady_one
    (subst (λ b. ReturnsAll (found b (folder.is_steady one)) (folder.images zero) (folder.made two) opening.rings opening.left opening.last) honest_one
    (c.in_err-walk.ensures.returned (folder.images zero) (λ honest name. sym (c.in_ok-names.ensures.same (subst (λ b. IsTrue b) honest_one honest) name)))))

pub returns-in_err-walk-clause-others : goal.returns-in_err-walk-clause-others
returns-in_err-walk-clause-others g c is =
    let folder = g.F.Folder in
    let zero = c.args.folder.now in
    let one = c.settled_names.new.folder in
    let two = c.walk.new.folder in
    Stays-trans folder.images folder.may_leave (folder.made zero) (folder.made two) zero one two (none_fewer (folder.made zero) (folder.made two) c.requires.fresh)
    (c.in_ok-names.ensures.others is) (c.in_err-walk.ensures.others (subst (λ b. IsTrue b) (sym c.in_ok-names.ensures.kept.honest) is))

-- or at the file of the aliases
pub returns-in_err-aliases-clause-returned : goal.returns-in_err-aliases-clause-returned
returns-in_err-aliases-clause-returned g c =
    let folder = g.F.Folder in
    let slot = g.F.Cell.Slot in
    let zero = c.args.folder.now in
    let one = c.settled_names.new.folder in
    let two = c.walk.new.folder in
    let honest_one : folder.is_honest one ≡ folder.is_honest zero = c.in_ok-names.ensures.kept.honest in
    let steady_one : folder.is_steady one ≡ folder.is_steady zero = c.in_ok-names.ensures.kept.steady.same in
    let three = c.load_aliases.new.folder in
    let before = c.walk.new.opening in
    let opening = c.load_aliases.new.opening in
    let honest_two : folder.is_honest two ≡ folder.is_honest zero = c.in_ok-walk.ensures.honest ∙ honest_one in
    let steady_two : folder.is_steady two ≡ folder.is_steady zero = c.in_ok-walk.ensures.steady ∙ steady_one in
    let found = IsAsFound slot.seen slot.temporary slot.may_leave slot.left_since slot.is_honest slot.is_steady in
    let walked = subst (λ b. Walk c.args.limits.now b folder.images folder.may_leave folder.made one two c.deref.result.now (plain before)) honest_one c.in_ok-walk.ensures.walked in
    let off = off_way c.args.limits.now (found (folder.is_honest zero) (folder.is_steady zero)) (folder.is_honest zero) folder.images folder.may_leave folder.made one two c.deref.result.now before walked in
    let handed : HandsBack (found (folder.is_honest two) (folder.is_steady two)) (folder.images zero) (folder.made two) before.rings before.left =
    subst (λ b. HandsBack (found (folder.is_honest two) b) (folder.images zero) (folder.made two) before.rings before.left) (sym c.in_ok-walk.ensures.steady)
    (subst (λ b. HandsBack (found b (folder.is_steady one)) (folder.images zero) (folder.made two) before.rings before.left) (sym c.in_ok-walk.ensures.honest)
    (c.in_ok-walk.ensures.handed (folder.images zero) (λ honest name. sym (c.in_ok-names.ensures.same (subst (λ b. IsTrue b) honest_one honest) name)))) in
    whatever _ (subst (λ b. ReturnsAll (found (folder.is_honest zero) b) (folder.images zero) (folder.made three) opening.rings opening.left opening.last) steady_two
    (subst (λ b. ReturnsAll (found b (folder.is_steady two)) (folder.images zero) (folder.made three) opening.rings opening.left opening.last) honest_two
    (c.in_err-aliases.ensures.returned (folder.images zero)
    (λ honest. let was = subst (λ b. IsTrue b) honest_two honest in sym (walked.same was aliases off ∙ c.in_ok-names.ensures.same was aliases))
    handed c.in_ok-walk.ensures.last)))

pub returns-in_err-aliases-clause-others : goal.returns-in_err-aliases-clause-others
returns-in_err-aliases-clause-others g c is =
    let folder = g.F.Folder in
    let zero = c.args.folder.now in
    let one = c.settled_names.new.folder in
    let two = c.walk.new.folder in
    let three = c.load_aliases.new.folder in
    let honest_one : folder.is_honest one ≡ folder.is_honest zero = c.in_ok-names.ensures.kept.honest in
    let honest_two : folder.is_honest two ≡ folder.is_honest zero = c.in_ok-walk.ensures.honest ∙ honest_one in
    Stays-trans folder.images folder.may_leave (folder.made two) (folder.made three) zero two three (one_fewer aliases (folder.made two) (folder.made three) c.in_err-aliases.ensures.one)
    (Stays-trans folder.images folder.may_leave (folder.made zero) (folder.made two) zero one two (none_fewer (folder.made zero) (folder.made two) c.requires.fresh)
    (c.in_ok-names.ensures.others is) (c.in_ok-walk.ensures.others (subst (λ b. IsTrue b) (sym honest_one) is)))
    (c.in_err-aliases.ensures.stays (subst (λ b. IsTrue b) (sym honest_two) is))

pub returns-clause-others : goal.returns-clause-others
returns-clause-others g c is =
    let folder = g.F.Folder in
    let zero = c.args.folder.now in
    let one = c.settled_names.new.folder in
    let two = c.walk.new.folder in
    let three = c.load_aliases.new.folder in
    let honest_one : folder.is_honest one ≡ folder.is_honest zero = c.in_ok-names.ensures.kept.honest in
    let honest_two : folder.is_honest two ≡ folder.is_honest zero = c.in_ok-walk.ensures.honest ∙ honest_one in
    Stays-trans folder.images folder.may_leave (folder.made two) (folder.made three) zero two three (one_fewer aliases (folder.made two) (folder.made three) c.in_ok-aliases.ensures.one)
    (Stays-trans folder.images folder.may_leave (folder.made zero) (folder.made two) zero one two (none_fewer (folder.made zero) (folder.made two) c.requires.fresh)
    (c.in_ok-names.ensures.others is) (c.in_ok-walk.ensures.others (subst (λ b. IsTrue b) (sym honest_one) is)))
    (c.in_ok-aliases.ensures.stays (subst (λ b. IsTrue b) (sym honest_two) is))

pub returns-in_err-names-clause-others : goal.returns-in_err-names-clause-others
returns-in_err-names-clause-others g c is =
    let folder = g.F.Folder in
    subst (λ m. Stays folder.images folder.may_leave m c.args.folder.now c.settled_names.new.folder) (c.requires.fresh ∙ sym c.in_err-names.ensures.made)
    (c.in_err-names.ensures.others is)

-- no slot failed: none among the names, and not the one for the aliases
pub returns-clause-fine : goal.returns-clause-fine
returns-clause-fine g c =
    let slot = g.F.Cell.Slot in
    let opening = c.walk.new.opening in
    let whole : c.replace.result ≡ opening = c.replace.ensures.value ∙ c.in_ok-aliases.ensures.opening in
    let start : NoneFailed slot.failed c.args.opening.now.rings c.args.opening.now.left c.args.opening.now.last =
    subst (λ o. NoneFailed slot.failed o.rings o.left o.last) (sym c.requires.empty) (record { listed = All-nil _; alone = All-nil _; last = tt }) in
    let none_failed = c.in_ok-walk.ensures.fault start (λ is. let never : ⊥ = cc in never) in
    record {
      listed = All-permutation (λ ring. slot.failed ring.cell.slot ≡ None) c.replace.result.rings c.into_parts-rings.result.0.items c.into_parts-rings.ensures.same
          (subst (λ o. All (λ ring. slot.failed ring.cell.slot ≡ None) o.rings) (sym whole) none_failed.listed);
      alone = subst (λ l. All (λ file. slot.failed file.slot ≡ None) l) (sym (c.into_parts-rings.ensures.left ∙ ap (λ o. o.left) whole)) none_failed.alone;
      last = c.in_ok-aliases.ensures.fine;
    }
