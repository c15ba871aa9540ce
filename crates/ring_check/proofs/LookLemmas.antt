-- One more slot that was looked at.
use Rattle.std.proofs.Common.{◌≡◌, ◌⊎◌, ⊎_elim, inl, inr, ℕ, ◌<◌, List, [], ◌∷◌, ◌++◌, Bool, IsTrue, suc, refl, sym, ◌∙◌, ap, subst, arith}
use Rattle.std.specs.List.{Contains}
use Rattle.std.proofs.lemmas.List.Quantifiers.{Any-push}
use Rattle.kr_outside.specs.Faults.{Rose, KeepsSteady, last_count}
use Rattle.kr_outside.specs.Folder.{Stays}
use Rattle.kr_outside.specs.RenameDisk.{Image, Temporary, Unknown, LeavesNoMore}
use Rattle.kr_outside.specs.Slot.{KeepsNature, OnlyLooks}
use Rattle.kr_outside.specs.declared.slot.Slot.{Ghosts}
use Rattle.ring_check.specs.Looks.{IsUntouched, AreUntouched, none, more, LooksOnce, nothing, once, HasFailed}
use Rattle.ring_check.specs.declared.reading.Looked.{Looked}

module _ {S : Type 0} (name : List ℕ) (untouched : S → Type 0) (made : List (List ℕ)) (looked : List (Looked S)) where
  pub looks_nothing : (made_new : List (List ℕ)) (looked_new : List (Looked S)) → made_new ≡ made → looked_new ≡ looked → LooksOnce name untouched made looked made_new looked_new
  looks_nothing made_new looked_new m l = subst (λ x. LooksOnce name untouched made looked x looked_new) (sym m) (subst (λ x. LooksOnce name untouched made looked made x) (sym l) nothing)

  pub looks_once : (made_new : List (List ℕ)) (looked_new : List (Looked S)) (one : Looked S) → made_new ≡ name ∷ made → looked_new ≡ looked ++ one ∷ []
      → one.name ≡ name → untouched one.slot → LooksOnce name untouched made looked made_new looked_new
  looks_once made_new looked_new one m l named un =
      subst (λ x. LooksOnce name untouched made looked x looked_new) (sym m) (subst (λ x. LooksOnce name untouched made looked (name ∷ made) x) (sym l) (once one named un))

-- a slot that was made of a name and looked at is untouched
pub untouched_there : {S : Type 0} (slot : Ghosts S) (fault : Type 0) (honest steady : Bool) (image : Image) (leaves : Image → Type 0) (made now : S)
    → slot.is_honest made ≡ honest → slot.is_steady made ≡ steady
    → (IsTrue honest → slot.seen made ≡ image) → (IsTrue honest → LeavesNoMore leaves (slot.may_leave made)) → (IsTrue honest → slot.temporary made ≡ Unknown)
    → KeepsNature slot.is_honest slot.is_steady slot.faults fault made now → OnlyLooks slot.seen slot.temporary slot.may_leave slot.is_honest made now
    → IsUntouched slot.seen slot.temporary slot.may_leave slot.is_honest slot.is_steady honest steady image leaves now
untouched_there slot fault honest steady image leaves made now made_honest made_steady made_seen made_crash made_temporary kept look = record {
  as_honest = kept.honest ∙ made_honest;
  as_steady = kept.steady.same ∙ made_steady;
  same = λ is. look.same (was is) ∙ made_seen is;
  crash = λ is left may. made_crash is left (look.crash (was is) left may);
  untouched = λ is. look.same_temporary (was is) ∙ made_temporary is;
}
  where
    was : IsTrue honest → IsTrue (slot.is_honest made)
    was is = subst (λ b. IsTrue b) (sym made_honest) is

-- the last slot failed
pub failed_last : {S : Type 0} (faults : S → ℕ) (is_steady : S → Bool) (steady : Bool) (looked looked_new : List (Looked S)) (one : Looked S) (start : S)
    → looked_new ≡ looked ++ one ∷ [] → faults start ≡ 0 → Rose (faults start) (faults one.slot)
    → is_steady start ≡ steady → KeepsSteady (is_steady start) (is_steady one.slot) (faults start) (faults one.slot)
    → HasFailed faults looked_new × ¬ (IsTrue steady)
failed_last {S = S} faults is_steady steady looked looked_new one start longer fresh rose steady_start keeps = (
  subst (λ l. HasFailed faults l) (sym longer) (Any-push (λ (o : Looked S). Rose 0 (faults o.slot)) looked one (subst (λ n. Rose n (faults one.slot)) fresh rose)),
  λ s.
      let same : faults one.slot ≡ faults start = keeps.still (subst (λ b. IsTrue b) (sym steady_start) s) in
      ⊎_elim (λ (up : faults start < faults one.slot). omega (arith, same, up)) (λ (last : faults one.slot ≡ last_count). omega (arith, same, fresh, last)) rose,
)
