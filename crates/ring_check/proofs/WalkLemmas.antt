-- A check of a folder after one more name.
use Rattle.std.proofs.Common.{◌≡◌, ◌⊎◌, ⊎_elim, inl, inr, ℕ, ◌<◌, ◌≤◌, Bool, false, IsTrue, IsFalse, List, [], ◌∷◌, ◌++◌, length, take, get_or, Option, suc, refl, sym, ◌∙◌, ap, subst, arith, append-nil}
use Rattle.std.specs.List.{Contains}
use Rattle.std.proofs.lemmas.List.Elements.{Contains-append_left, Contains-push}
use Rattle.std.specs.Io.KnownBytes.{Appends}
use Rattle.kr_outside.specs.Faults.{Rose, KeepsSteady, last_count}
use Rattle.kr_outside.specs.Folder.{Stays}
use Rattle.kr_outside.specs.RenameDisk.{Image, Temporary, LeavesNoMore}
use Rattle.kr_outside.specs.Written.{AppendsFront}
use Rattle.kr_outside.proofs.FaultLemmas.{KeepsSteady-none, KeepsSteady-trans}
use Rattle.folder_store.proofs.OpenedLemmas.{cons_cases}
use Rattle.folder_store.proofs.WalkLemmas.{Stays-none, Stays-trans}
use Rattle.ring_check.specs.Batches.{Finds, nothing, IsUpTo, KeepsOutput}
use Rattle.ring_check.specs.Folder.{verdicts_on}
use Rattle.ring_check.specs.Lines.{report_of}
use Rattle.ring_check.specs.Looks.{IsUntouched, AreUntouched, none, more, LooksOnce, OnlyLooks}
use Rattle.ring_check.specs.Looks.{nothing as looked_nothing, once as looked_once}
use Rattle.ring_check.specs.declared.batches.Batch.{Batch}
use Rattle.ring_check.specs.declared.reading.Looked.{Looked}
use Rattle.ring_check.proofs.BatchLemmas.{lines, upto_none, keeps_none, keeps_then}
use Rattle.ring_check.proofs.FindsLemmas.{finds-append, finds-same, finds-some}

-- a slot that is untouched since a later moment is so since an earlier one, if the name was as it was in between
pub untouched_since : {S : Type 0} (seen : S → Image) (temporary : S → Temporary) (may_leave : S → Image → Type 0) (is_honest is_steady : S → Bool)
    (honest was_honest steady was_steady : Bool) (image was : Image) (leaves left : Image → Type 0) (slot : S)
    → honest ≡ was_honest → steady ≡ was_steady → (IsTrue was_honest → image ≡ was) → (IsTrue was_honest → LeavesNoMore left leaves)
    → IsUntouched seen temporary may_leave is_honest is_steady honest steady image leaves slot
    → IsUntouched seen temporary may_leave is_honest is_steady was_honest was_steady was left slot
untouched_since seen temporary may_leave is_honest is_steady honest was_honest steady was_steady image was leaves left slot h st same fewer u = record {
  as_honest = u.as_honest ∙ h;
  as_steady = u.as_steady ∙ st;
  same = λ is. u.same (subst (λ b. IsTrue b) (sym h) is) ∙ same is;
  crash = λ is now may. fewer is now (u.crash (subst (λ b. IsTrue b) (sym h) is) now may);
  untouched = λ is. u.untouched (subst (λ b. IsTrue b) (sym h) is);
}

-- what is known of each slot
pub untouched_all : {S : Type 0} (P Q : List ℕ → S → Type 0) (made : List (List ℕ)) (looked : List (Looked S)) → ((name : List ℕ) (slot : S) → P name slot → Q name slot)
    → AreUntouched P made looked → AreUntouched Q made looked
untouched_all P Q _ _ go none = none
untouched_all P Q _ _ go (more made looked one rest here) = more made looked one (untouched_all P Q made looked go rest) (go one.name one.slot here)

-- one more name, or none
pub untouched_more : {S : Type 0} (name : List ℕ) (here : S → Type 0) (Q : List ℕ → S → Type 0) (made made_new : List (List ℕ)) (looked looked_new : List (Looked S))
    → ((slot : S) → here slot → Q name slot) → LooksOnce name here made looked made_new looked_new → AreUntouched Q made looked → AreUntouched Q made_new looked_new
untouched_more name here Q made _ looked _ go looked_nothing before = before
untouched_more name here Q made _ looked _ go (looked_once one named un) before =
    subst (λ n. AreUntouched Q (n ∷ made) (looked ++ one ∷ [])) named (more made looked one before (subst (λ n. Q n one.slot) (sym named) (go one.slot un)))

pub among_more : {S : Type 0} (name : List ℕ) (here : S → Type 0) (made made_new : List (List ℕ)) (looked looked_new : List (Looked S)) (names : List (List ℕ))
    → LooksOnce name here made looked made_new looked_new → ((n : List ℕ) → Contains made n → Contains names n) → (n : List ℕ) → Contains made_new n → Contains (names ++ name ∷ []) n
among_more name here made _ looked _ names looked_nothing among n has = Contains-append_left names (name ∷ []) n (among n has)
among_more name here made _ looked _ names (looked_once one named un) among n has = ⊎_elim
    (λ same. subst (λ m. Contains (names ++ name ∷ []) m) (sym same) (Contains-push names name))
    (λ before. Contains-append_left names (name ∷ []) n (among n before))
    (cons_cases name made n has)

-- a name without a slot had none before
pub fewer_before : {S : Type 0} (name : List ℕ) (here : S → Type 0) (made made_new : List (List ℕ)) (looked looked_new : List (Looked S))
    → LooksOnce name here made looked made_new looked_new → (n : List ℕ) → ¬ (Contains made_new n) → ¬ (Contains made n)
fewer_before name here made _ looked _ looked_nothing n off has = off has
fewer_before name here made _ looked _ (looked_once one named un) n off (k, in_range, is) = off (suc k, omega (arith, in_range), is)

module _ {F S O : Type 0} (folder_honest folder_steady : F → Bool) (folder_faults : F → ℕ) (images : F → List ℕ → Image) (folder_leaves : F → List ℕ → Image → Type 0) (made : F → List (List ℕ))
    (seen : S → Image) (temporary : S → Temporary) (may_leave : S → Image → Type 0) (is_honest is_steady : S → Bool)
    (written : O → Option (List ℕ)) (faults : O → ℕ) (steady is_closed : O → Bool) (p : Option (List ℕ)) where
  -- the slot is untouched since this moment of the folder
  abbrev pub Since : F → List ℕ → S → Type 0
  Since old name = IsUntouched seen temporary may_leave is_honest is_steady (folder_honest old) (folder_steady old) (images old name) (folder_leaves old name)

  -- these names were looked at
  pub record Walked (old : F) (start : O) (names : List (List ℕ)) (now : F) (batch : Batch) (looked : List (Looked S)) (output : O) : Type 0 where
    pub files : List (List ℕ × List ℕ)
    pub finds : Finds (folder_honest old) (images old) names files
    pub up_to : IsUpTo p (written start) (written output) batch files
    pub slots : AreUntouched (Since old) (made now) looked
    pub among : (n : List ℕ) → Contains (made now) n → Contains names n
    pub others : IsTrue (folder_honest old) → Stays images folder_leaves (made now) old now
    pub as_honest : folder_honest now ≡ folder_honest old
    pub as_steady : folder_steady now ≡ folder_steady old
    pub count : folder_faults now ≡ folder_faults old
    pub kept : KeepsOutput faults steady is_closed ⊥ start output

  pub walked_none : (old : F) (start : O) (batch : Batch) (looked : List (Looked S)) → made old ≡ [] → looked ≡ [] → batch.files.items ≡ [] → batch.is_damaged ≡ false → IsFalse (is_closed start)
      → Walked old start [] old batch looked start
  walked_none old start batch looked fresh empty no_files sound is_open = record {
    files = [];
    finds = nothing;
    up_to = upto_none p (written start) batch no_files sound;
    slots = subst (λ m. AreUntouched (Since old) m looked) (sym fresh) (subst (λ l. AreUntouched (Since old) [] l) (sym empty) none);
    among = λ n has. subst (λ l. Contains l n) fresh has;
    others = λ is. Stays-none images folder_leaves (made old) old;
    as_honest = refl;
    as_steady = refl;
    count = refl;
    kept = keeps_none faults steady is_closed ⊥ start is_open (λ never. never);
  }

  module _ (old : F) (start : O) (names : List (List ℕ)) (mid : F) (batch : Batch) (looked : List (Looked S)) (output : O) (w : Walked old start names mid batch looked output)
      (name : List ℕ) (off : ¬ (Contains names name)) (new : F) (looked_new : List (Looked S)) (output_new : O) where
    -- the name is as it was
    still : IsTrue (folder_honest old) → images mid name ≡ images old name
    still is = (w.others is).same name (λ has. off (w.among name has))

    -- what was found under the name, as the folder was at the start
    pub found_since : (files : List (List ℕ × List ℕ)) → Finds (folder_honest mid) (images mid) (name ∷ []) files → Finds (folder_honest old) (images old) (name ∷ []) files
    found_since files finds = finds-same (folder_honest old) (images mid) (images old) (name ∷ []) files
        (λ n has is. ⊎_elim (λ same. ap (images old) same ∙ sym (still is) ∙ ap (images mid) (sym same)) (λ none. absurd (omega (arith, none.1))) (cons_cases name [] n has))
        (subst (λ b. Finds b (images mid) (name ∷ []) files) w.as_honest finds)

    slots_now : LooksOnce name (Since mid name) (made mid) looked (made new) looked_new → AreUntouched (Since old) (made new) looked_new
    slots_now look = untouched_more name (Since mid name) (Since old) (made mid) (made new) looked looked_new
        (λ slot here. untouched_since seen temporary may_leave is_honest is_steady (folder_honest mid) (folder_honest old) (folder_steady mid) (folder_steady old)
        (images mid name) (images old name) (folder_leaves mid name) (folder_leaves old name) slot w.as_honest w.as_steady still
        (λ is. (w.others is).crash name (λ has. off (w.among name has))) here)
        look w.slots

    others_now : LooksOnce name (Since mid name) (made mid) looked (made new) looked_new → (IsTrue (folder_honest mid) → Stays images folder_leaves (made new) mid new)
        → IsTrue (folder_honest old) → Stays images folder_leaves (made new) old new
    others_now look stays is = Stays-trans images folder_leaves (made mid) (made new) old mid new (fewer_before name (Since mid name) (made mid) (made new) looked looked_new look)
        (w.others is) (stays (subst (λ b. IsTrue b) (sym w.as_honest) is))

    -- one more name was looked at
    pub walked_more : (batch_new : Batch) (files : List (List ℕ × List ℕ)) → Finds (folder_honest mid) (images mid) (name ∷ []) files
        → IsUpTo p (written start) (written output_new) batch_new (w.files ++ files)
        → LooksOnce name (Since mid name) (made mid) looked (made new) looked_new → (IsTrue (folder_honest mid) → Stays images folder_leaves (made new) mid new)
        → folder_honest new ≡ folder_honest mid → folder_steady new ≡ folder_steady mid → folder_faults new ≡ folder_faults mid
        → (fault : Type 0) → ¬ fault → KeepsOutput faults steady is_closed fault output output_new
        → Walked old start (names ++ name ∷ []) new batch_new looked_new output_new
    walked_more batch_new files finds up_to look stays as_honest as_steady count fault never kept = record {
      files = w.files ++ files;
      finds = finds-append (folder_honest old) (images old) names (name ∷ []) w.files files w.finds (found_since files finds);
      up_to = up_to;
      slots = slots_now look;
      among = among_more name (Since mid name) (made mid) (made new) looked looked_new names look w.among;
      others = others_now look stays;
      as_honest = as_honest ∙ w.as_honest;
      as_steady = as_steady ∙ w.as_steady;
      count = count ∙ w.count;
      kept = keeps_then faults steady is_closed ⊥ ⊥ start output output_new w.kept
          (record { later = kept.later; cause = λ none. absurd none; steady = kept.steady; is_open = kept.is_open });
    }

    -- the check stopped at the name: what was written is a prefix of the lines of all files
    pub stopped_front : (rest : List (List ℕ)) (files : List (List ℕ × List ℕ)) → Finds (folder_honest mid) (images mid) (name ∷ []) files
        → ((later : List (List ℕ × List ℕ)) → AppendsFront (written start) (written output_new) (lines p ((w.files ++ files) ++ later)))
        → (all : List (List ℕ × List ℕ)) × Finds (folder_honest old) (images old) ((names ++ name ∷ []) ++ rest) all
        × AppendsFront (written start) (written output_new) (lines p all)
    stopped_front rest files finds front =
        let later = finds-some (folder_honest old) (images old) rest in (
          (w.files ++ files) ++ later.0,
          finds-append (folder_honest old) (images old) (names ++ name ∷ []) rest (w.files ++ files) later.0
              (finds-append (folder_honest old) (images old) names (name ∷ []) w.files files w.finds (found_since files finds)) later.1,
          front later.0,
        )

    -- and the folder was only looked at
    pub stopped_looks : LooksOnce name (Since mid name) (made mid) looked (made new) looked_new → (IsTrue (folder_honest mid) → Stays images folder_leaves (made new) mid new)
        → folder_honest new ≡ folder_honest mid → folder_steady new ≡ folder_steady mid → folder_faults new ≡ folder_faults mid
        → OnlyLooks (Since old) (folder_honest old) images folder_leaves made folder_honest folder_steady folder_faults old new looked_new
    stopped_looks look stays as_honest as_steady count = record {
      slots = slots_now look;
      others = others_now look stays;
      as_honest = as_honest ∙ w.as_honest;
      steady = record { same = as_steady ∙ w.as_steady; still = λ is. count ∙ w.count };
    }

  -- all names were looked at
  pub walked_looks : (old : F) (start : O) (names : List (List ℕ)) (now : F) (batch : Batch) (looked : List (Looked S)) (output : O) → Walked old start names now batch looked output
      → OnlyLooks (Since old) (folder_honest old) images folder_leaves made folder_honest folder_steady folder_faults old now looked
  walked_looks old start names now batch looked output w = record {
    slots = w.slots;
    others = w.others;
    as_honest = w.as_honest;
    steady = record { same = w.as_steady; still = λ is. w.count };
  }

  -- the folder was settled and its names were listed before that
  pub looks_since : (old mid new : F) (looked : List (Looked S)) → made old ≡ [] → folder_honest mid ≡ folder_honest old → KeepsSteady (folder_steady old) (folder_steady mid) (folder_faults old) (folder_faults mid)
      → (IsTrue (folder_honest old) → Stays images folder_leaves (made old) old mid)
      → OnlyLooks (Since mid) (folder_honest mid) images folder_leaves made folder_honest folder_steady folder_faults mid new looked
      → OnlyLooks (Since old) (folder_honest old) images folder_leaves made folder_honest folder_steady folder_faults old new looked
  looks_since old mid new looked fresh honest keeps stays l = record {
    slots = untouched_all (Since mid) (Since old) (made new) looked
        (λ name slot here. untouched_since seen temporary may_leave is_honest is_steady (folder_honest mid) (folder_honest old) (folder_steady mid) (folder_steady old)
        (images mid name) (images old name) (folder_leaves mid name) (folder_leaves old name) slot honest keeps.same
        (λ is. (stays is).same name (none_made name)) (λ is. (stays is).crash name (none_made name)) here)
        l.slots;
    others = λ is. Stays-trans images folder_leaves (made old) (made new) old mid new (λ n off. none_made n) (stays is) (l.others (subst (λ b. IsTrue b) (sym honest) is));
    as_honest = l.as_honest ∙ honest;
    steady = KeepsSteady-trans (folder_steady old) (folder_steady mid) (folder_steady new) (folder_faults old) (folder_faults mid) (folder_faults new) keeps l.steady;
  }
    where
      none_made : (n : List ℕ) → ¬ (Contains (made old) n)
      none_made n has = absurd (omega (arith, (subst (λ l. Contains l n) fresh has).1))

  -- the names couldn't be listed
  pub looks_names : (old mid : F) (looked : List (Looked S)) → made old ≡ [] → made mid ≡ [] → looked ≡ [] → folder_honest mid ≡ folder_honest old
      → KeepsSteady (folder_steady old) (folder_steady mid) (folder_faults old) (folder_faults mid)
      → (IsTrue (folder_honest old) → Stays images folder_leaves (made old) old mid)
      → OnlyLooks (Since old) (folder_honest old) images folder_leaves made folder_honest folder_steady folder_faults old mid looked
  looks_names old mid looked fresh still_fresh empty honest keeps stays = record {
    slots = subst (λ m. AreUntouched (Since old) m looked) (sym still_fresh) (subst (λ l. AreUntouched (Since old) [] l) (sym empty) none);
    others = λ is. subst (λ m. Stays images folder_leaves m old mid) (fresh ∙ sym still_fresh) (stays is);
    as_honest = honest;
    steady = keeps;
  }
