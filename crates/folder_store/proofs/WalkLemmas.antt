-- One more name of a folder.
use Rattle.std.proofs.Common.{◌≡◌, ⊎_elim, inl, inr, ◌↔◌, ℕ, ◌<◌, List, [], ◌∷◌, ◌++◌, Bool, IsTrue, IsSome, suc, length, take, get_or, refl, sym, ◌∙◌, ap, subst, arith}
use Rattle.std.specs.List.{Contains}
use Rattle.std.specs.List.Sorted.{IsStrictlySortedBy}
use Rattle.std.specs.declared.cmp.Ordering.TheVariants.{Less, Equal}
use Rattle.std.specs.Ordering.{nat_cmp}
use Rattle.std.specs.Cmp.Lexicographic.{slice_cmp, nat_list_cmp_total}
use Rattle.std.proofs.lemmas.Cmp.{tied_itself}
use Rattle.std.proofs.lemmas.List.{get_or-take, length-take}
use Rattle.std.proofs.lemmas.List.Elements.{Contains-append_left, Contains-push}
use Rattle.std.proofs.lemmas.Map.Keys.{Less-from_sorted}
use Rattle.kr_outside.specs.Folder.{IsSettled, Stays, Lists}
use Rattle.kr_outside.specs.RenameDisk.{Image}
use Rattle.folder_store.specs.declared.limits.Limits.{Limits}
use Rattle.folder_store.specs.Names.{IsRingName}
use Rattle.folder_store.specs.Opened.{Opening, Takes, none, more, other, left_alone, listed}
use Rattle.folder_store.specs.Ring.{MakesOneAtMost}
use Rattle.folder_store.specs.Walk.{OpeningState, plain, MakesAtMost, one, Visits, Walk}
use Rattle.folder_store.specs.Walk.{none as made_none}
use Rattle.folder_store.proofs.OpenedLemmas.{told_push, keys_push, cons_cases}

-- a used stem stays used
pub still_used : (limits : Limits) (name image : List ℕ) (opening next : Opening) → Takes limits name image opening next → (stem : List ℕ) → Contains opening.used stem → Contains next.used stem
still_used limits name image opening _ (other off) stem used = used
still_used limits name image opening _ (left_alone s is off) stem used = Contains-append_left opening.used (s ∷ []) stem used
still_used limits name image opening _ (listed s clear is reads fits) stem used = Contains-append_left opening.used (s ∷ []) stem used

-- the names before a place don't include the one at that place
pub not_before : (names : List (List ℕ)) (k : ℕ) (x : List ℕ) → IsStrictlySortedBy (slice_cmp nat_cmp) names → k < length names → get_or names k x ≡ x → ¬ (Contains (take k names) x)
not_before names k x sorted in_range here (i, lt, is) =
    let short : i < k = omega (arith, length-take k names, lt) in
    let same : get_or names i x ≡ x = sym (get_or-take k names i x short) ∙ is in
    let less : slice_cmp nat_cmp x x ≡ Less = rw (same, here) at (Less-from_sorted (slice_cmp nat_cmp) names i k x sorted short in_range) in
    let tied : slice_cmp nat_cmp x x ≡ Equal = tied_itself nat_list_cmp_total x in
    let wrong : Less ≡ Equal = sym less ∙ tied in cc

module _ {F : Type 0} (limits : Limits) (honest : Bool) (images : F → List ℕ → Image) (may_leave : F → List ℕ → Image → Type 0) (made : F → List (List ℕ)) where
  abbrev Walks : F → F → List (List ℕ) → Opening → Type 0
  Walks = Walk limits honest images may_leave made

  -- before the first name
  pub Walk-none : (old : F) → made old ≡ [] → (IsTrue honest → IsSettled [] (images old) (may_leave old)) → Walks old old [] (record { rings = []; used = [] })
  Walk-none old fresh settled = record {
    files = [];
    keys = refl;
    opens = none;
    told = λ is. tt;
    slots = λ name has. absurd (omega (arith, (subst (λ l. Contains l name) fresh has).1));
    same = λ is name off. refl;
    settled = λ is name off. settled is name (λ has. absurd (omega (arith, has.1)));
  }

  -- a name without a slot after this step had none before it
  fewer : (name : List ℕ) (used before after : List (List ℕ)) → MakesAtMost name used before after → (n : List ℕ) → ¬ (Contains after n) → ¬ (Contains before n)
  fewer name used before _ made_none n off has = off has
  fewer name used before _ (one stem is used_stem) n off (k, in_range, is_n) = off (suc k, omega (arith, in_range), is_n)

  -- one more name
  pub Walk-more : {S : Type 0} (old mid new : F) (names : List (List ℕ)) (name : List ℕ) (opening next : OpeningState S) → Walks old mid names (plain opening)
      → (IsTrue honest → IsSome (images old name)) → ¬ (Contains names name)
      → Visits limits honest (images mid name) name (made mid) (made new) opening next
      → (IsTrue honest → Stays images may_leave (made new) mid new)
      → Walks old new (names ++ name ∷ []) (plain next)
  Walk-more old mid new names name opening next walk some fresh visit stays = record {
    files = walk.files ++ (name, visit.image) ∷ [];
    keys = keys_push walk.files (name, visit.image) ∙ ap (λ l. l ++ name ∷ []) walk.keys;
    opens = more walk.files (plain opening) (plain next) name visit.image walk.opens visit.takes;
    told = λ is.
        let as_old : images mid name ≡ images old name = walk.same is name (λ has. fresh (walk.slots name has).0) in
        told_push (images old) walk.files (name, visit.image) (walk.told is)
        (sym as_old ∙ visit.told is (subst (λ (i : Image). IsSome i) (sym as_old) (some is)));
    slots = slots visit.made;
    same = λ is n off. (stays is).same n off ∙ walk.same is n (fewer name next.used (made mid) (made new) visit.made n off);
    settled = λ is n off left may. walk.settled is n (fewer name next.used (made mid) (made new) visit.made n off) left ((stays is).crash n off left may);
  }
    where
      kept : (n : List ℕ) → Contains (made mid) n → Contains (names ++ name ∷ []) n × ((stem : List ℕ) × IsRingName n stem × Contains next.used stem)
      kept n has =
          let before = walk.slots n has in (
            Contains-append_left names (name ∷ []) n before.0,
            (before.1.0, before.1.1, still_used limits name visit.image (plain opening) (plain next) visit.takes before.1.0 before.1.2),
          )

      slots : {after : List (List ℕ)} → MakesAtMost name next.used (made mid) after → (n : List ℕ) → Contains after n → Contains (names ++ name ∷ []) n × ((stem : List ℕ) × IsRingName n stem × Contains next.used stem)
      slots made_none n has = kept n has
      slots (one stem is used) n has = ⊎_elim
          (λ same. subst (λ m. Contains (names ++ name ∷ []) m × ((stem : List ℕ) × IsRingName m stem × Contains next.used stem)) (sym same) (Contains-push names name, (stem, is, used)))
          (λ before. kept n before)
          (cons_cases name (made mid) n has)

-- the names of a folder that was settled, in order
pub listed_settled : (made : List (List ℕ)) (images now : List ℕ → Image) (names sorted : List (List ℕ)) → made ≡ [] → Lists made images names
    → ((name : List ℕ) → ¬ (Contains made name) → now name ≡ images name) → ((name : List ℕ) → Contains sorted name ↔ Contains names name)
    → (name : List ℕ) → Contains sorted name ↔ IsSome (now name)
listed_settled made images now names sorted fresh lists same among name =
    let off : ¬ (Contains made name) = λ has. absurd (omega (arith, (subst (λ l. Contains l name) fresh has).1)) in (
      λ has. subst (λ (i : Image). IsSome i) (sym (same name off)) ((lists.all name off).0 ((among name).0 has)),
      λ some. (among name).1 ((lists.all name off).1 (subst (λ (i : Image). IsSome i) (same name off) some)),
    )

module _ {F : Type 0} (images : F → List ℕ → Image) (may_leave : F → List ℕ → Image → Type 0) where
  pub Stays-none : (made : List (List ℕ)) (old : F) → Stays images may_leave made old old
  Stays-none made old = record { same = λ name off. refl; crash = λ name off image may. may }

  -- one call after another, of which no fewer slots were made
  pub Stays-trans : (first second : List (List ℕ)) (old mid new : F) → ((name : List ℕ) → ¬ (Contains second name) → ¬ (Contains first name))
      → Stays images may_leave first old mid → Stays images may_leave second mid new → Stays images may_leave second old new
  Stays-trans first second old mid new among before after = record {
    same = λ name off. after.same name off ∙ before.same name (among name off);
    crash = λ name off image may. before.crash name (among name off) image (after.crash name off image may);
  }

  -- no slot was made in between
  pub Stays-again : (made same : List (List ℕ)) (old mid new : F) → same ≡ made → Stays images may_leave made old mid → Stays images may_leave same mid new
      → Stays images may_leave made old new
  Stays-again made same old mid new is before after =
      Stays-trans made made old mid new (λ name off. off) before (subst (λ m. Stays images may_leave m mid new) is after)

-- a name without a slot had none before one more was made
pub one_fewer : (name : List ℕ) (before after : List (List ℕ)) → MakesOneAtMost name before after → (n : List ℕ) → ¬ (Contains after n) → ¬ (Contains before n)
one_fewer name before after (inl same) n off has = off (subst (λ l. Contains l n) (sym same) has)
one_fewer name before after (inr longer) n off (k, in_range, is) = off (subst (λ l. Contains l n) (sym longer) (suc k, omega (arith, in_range), is))

-- nor before the first was made
pub none_fewer : (before after : List (List ℕ)) → before ≡ [] → (n : List ℕ) → ¬ (Contains after n) → ¬ (Contains before n)
none_fewer before after fresh n off has = absurd (omega (arith, (subst (λ l. Contains l n) fresh has).1))
