-- How far a check has come after one more step.
use Rattle.std.proofs.Common.{◌≡◌, ℕ, ◌<◌, ◌≤◌, ◌⊎◌, ⊎_elim, inl, inr, Result, Ok, Err, OnOk, OnErr, Bool, true, false, ◌||◌, IsTrue, IsFalse, List, [], ◌∷◌, ◌++◌, length, map, Option, None, Some, nat_lt, if◌then◌else◌, refl, sym, ◌∙◌, ap, subst, arith, append_assoc, append-nil}
use Rattle.std.proofs.lemmas.Bool.{cond_below as below}
use Rattle.std.proofs.lemmas.List.{map-append}
use Rattle.std.proofs.lemmas.List.Concat.{flat_map-append}
use Rattle.std.proofs.lemmas.List.Folds.{list_any-append}
use Rattle.std.specs.Io.KnownBytes.{Appends}
use Rattle.std.proofs.KnownBytes.{Appends-nil, Appends-trans}
use Rattle.keyring_file.specs.Limits.{file_limit}
use Rattle.kr_outside.specs.Faults.{Rose, KeepsSteady, last_count}
use Rattle.kr_outside.specs.Written.{AppendsFront}
use Rattle.kr_outside.proofs.FaultLemmas.{KeepsSteady-none, KeepsSteady-trans}
use Rattle.kr_outside.specs.RenameDisk.{Image}
use Rattle.ring_check.specs.Batches.{Finds, IsUpTo, KeepsOutput}
use Rattle.ring_check.specs.Folder.{verdicts_on, any_damaged}
use Rattle.ring_check.specs.Lines.{report_of, line_of}
use Rattle.ring_check.specs.Verdict.{verdict_of, judged, is_damaged}
use Rattle.ring_check.specs.declared.batches.Batch.{Batch}
use Rattle.ring_check.specs.declared.verdict.Row.TheVariants as row
use Rattle.ring_check.specs.declared.verdict.Verdict.{Verdict}

-- the lines of files
abbrev pub lines : Option (List ℕ) → List (List ℕ × List ℕ) → List ℕ
lines password files = report_of (verdicts_on password files)

-- whether one of the files is damaged
abbrev pub damage_in : Option (List ℕ) → List (List ℕ × List ℕ) → Bool
damage_in password files = any_damaged (verdicts_on password files)

pub lines-append : (p : Option (List ℕ)) (xs ys : List (List ℕ × List ℕ)) → lines p (xs ++ ys) ≡ lines p xs ++ lines p ys
lines-append p xs ys = ap report_of (map-append (verdict_of p) xs ys) ∙ flat_map-append line_of (verdicts_on p xs) (verdicts_on p ys)

pub damage-append : (p : Option (List ℕ)) (xs ys : List (List ℕ × List ℕ)) → damage_in p (xs ++ ys) ≡ (damage_in p xs || damage_in p ys)
damage-append p xs ys = ap any_damaged (map-append (verdict_of p) xs ys) ∙ list_any-append (λ (v : Verdict). is_damaged v.row) (verdicts_on p xs) (verdicts_on p ys)

or_true : (b : Bool) → (b || true) ≡ true
or_true true = refl
or_true false = refl

-- the verdict on a file that is too large
abbrev pub large : List ℕ → Verdict
large name = record { name = name; row = row.TooLarge }

pub large_row : (p : Option (List ℕ)) (bytes : List ℕ) → file_limit < length bytes → judged p bytes ≡ row.TooLarge
unfolding judged
large_row p bytes lt = sym (below file_limit (length bytes) _ _ lt)

pub large_verdict : (p : Option (List ℕ)) (name bytes : List ℕ) → file_limit < length bytes → verdict_of p (name, bytes) ≡ large name
large_verdict p name bytes lt = λ i. record { name = name; row = large_row p bytes lt i }

module _ (p : Option (List ℕ)) where
  -- before the first file
  pub upto_none : (start : Option (List ℕ)) (batch : Batch) → batch.files.items ≡ [] → batch.is_damaged ≡ false → IsUpTo p start start batch []
  upto_none start batch none sound = record { done = []; split = sym none; wrote = Appends-nil start; damage = sound }

  module _ (start old new : Option (List ℕ)) (batch : Batch) (files : List (List ℕ × List ℕ)) (u : IsUpTo p start old batch files) where
    parts : lines p files ≡ lines p u.done ++ lines p batch.files.items
    parts = ap (lines p) u.split ∙ lines-append p u.done batch.files.items

    -- the lines of the batch were written, and the batch is empty
    pub upto_flush : (next : Batch) → Appends old new (lines p batch.files.items) → next.files.items ≡ []
        → next.is_damaged ≡ (batch.is_damaged || damage_in p batch.files.items) → IsUpTo p start new next files
    upto_flush next put empty damage = record {
      done = files;
      split = sym (append-nil files) ∙ ap (λ l. files ++ l) (sym empty);
      wrote = subst (λ l. Appends start new l) (sym parts) (Appends-trans start old new (lines p u.done) (lines p batch.files.items) u.wrote put);
      damage = damage ∙ ap (λ b. b || damage_in p batch.files.items) u.damage ∙ sym (damage-append p u.done batch.files.items) ∙ ap (damage_in p) (sym u.split);
    }

    -- a prefix of the lines of the batch was written
    pub front_flush : (more : List (List ℕ × List ℕ)) → AppendsFront old new (lines p batch.files.items) → AppendsFront start new (lines p (files ++ more))
    front_flush more f = record {
      front = lines p u.done ++ f.front;
      rest = f.rest ++ lines p more;
      whole = lines-append p files more ∙ ap (λ l. l ++ lines p more) (parts ∙ ap (λ l. lines p u.done ++ l) f.whole ∙ sym (append_assoc (lines p u.done) f.front f.rest))
          ∙ append_assoc (lines p u.done ++ f.front) f.rest (lines p more);
      put = Appends-trans start old new (lines p u.done) f.front u.wrote f.put;
    }

    -- nothing more was written
    pub front_now : (more : List (List ℕ × List ℕ)) → AppendsFront start old (lines p (files ++ more))
    front_now more = record {
      front = lines p u.done;
      rest = lines p batch.files.items ++ lines p more;
      whole = lines-append p files more ∙ ap (λ l. l ++ lines p more) parts ∙ append_assoc (lines p u.done) (lines p batch.files.items) (lines p more);
      put = u.wrote;
    }

    -- the batch has one more file
    pub upto_push : (next : Batch) (file : List ℕ × List ℕ) → next.files.items ≡ batch.files.items ++ file ∷ [] → next.is_damaged ≡ batch.is_damaged
        → IsUpTo p start old next (files ++ file ∷ [])
    upto_push next file longer same = record {
      done = u.done;
      split = ap (λ l. l ++ file ∷ []) u.split ∙ append_assoc u.done batch.files.items (file ∷ []) ∙ ap (λ l. u.done ++ l) (sym longer);
      wrote = u.wrote;
      damage = same ∙ u.damage;
    }

    -- the last batch was judged
    pub end_whole : Appends old new (lines p batch.files.items) → Appends start new (lines p files)
    end_whole put = subst (λ l. Appends start new l) (sym parts) (Appends-trans start old new (lines p u.done) (lines p batch.files.items) u.wrote put)

    pub end_damage : (damaged : Bool) → damaged ≡ (batch.is_damaged || damage_in p batch.files.items) → damaged ≡ damage_in p files
    end_damage damaged is = is ∙ ap (λ b. b || damage_in p batch.files.items) u.damage ∙ sym (damage-append p u.done batch.files.items) ∙ ap (damage_in p) (sym u.split)

    pub end_front : AppendsFront old new (lines p batch.files.items) → AppendsFront start new (lines p files)
    end_front f = subst (λ l. AppendsFront start new (lines p l)) (append-nil files) (front_flush [] f)

    all_done : batch.files.items ≡ [] → u.done ≡ files
    all_done empty = sym (u.split ∙ ap (λ l. u.done ++ l) empty ∙ append-nil u.done)

    one_line : (name bytes : List ℕ) → file_limit < length bytes → lines p (files ++ (name, bytes) ∷ []) ≡ lines p files ++ report_of (large name ∷ [])
    one_line name bytes lt = lines-append p files ((name, bytes) ∷ []) ∙ ap (λ v. lines p files ++ report_of (v ∷ [])) (large_verdict p name bytes lt)

    before : batch.files.items ≡ [] → Appends start old (lines p files)
    before empty = subst (λ l. Appends start old (lines p l)) (all_done empty) u.wrote

    -- the batch is empty, and the line of a file that is too large was written
    pub upto_large : (next : Batch) (name bytes : List ℕ) → batch.files.items ≡ [] → Appends old new (report_of (large name ∷ [])) → file_limit < length bytes
        → next.files.items ≡ batch.files.items → next.is_damaged ≡ true → IsUpTo p start new next (files ++ (name, bytes) ∷ [])
    upto_large next name bytes empty put lt same damaged = record {
      done = files ++ (name, bytes) ∷ [];
      split = sym (append-nil (files ++ (name, bytes) ∷ [])) ∙ ap (λ l. (files ++ (name, bytes) ∷ []) ++ l) (sym (same ∙ empty));
      wrote = subst (λ l. Appends start new l) (sym (one_line name bytes lt)) (Appends-trans start old new (lines p files) (report_of (large name ∷ [])) (before empty) put);
      damage = damaged ∙ sym (or_true (damage_in p files)) ∙ ap (λ v. damage_in p files || any_damaged (v ∷ [])) (sym (large_verdict p name bytes lt)) ∙ sym (damage-append p files ((name, bytes) ∷ []));
    }

    -- a prefix of that line was written
    pub front_large : (name bytes : List ℕ) → batch.files.items ≡ [] → AppendsFront old new (report_of (large name ∷ [])) → file_limit < length bytes
        → AppendsFront start new (lines p (files ++ (name, bytes) ∷ []))
    front_large name bytes empty f lt = record {
      front = lines p files ++ f.front;
      rest = f.rest;
      whole = one_line name bytes lt ∙ ap (λ l. lines p files ++ l) f.whole ∙ sym (append_assoc (lines p files) f.front f.rest);
      put = Appends-trans start old new (lines p files) f.front (before empty) f.put;
    }

-- nothing was written
pub front_none : (start : Option (List ℕ)) (text : List ℕ) → AppendsFront start start text
front_none start text = record { front = []; rest = text; whole = refl; put = Appends-nil start }

-- all was written
pub front_all : (start now : Option (List ℕ)) (text : List ℕ) → Appends start now text → AppendsFront start now text
front_all start now text put = record { front = text; rest = []; whole = sym (append-nil text); put = put }

module _ {O : Type 0} (faults : O → ℕ) (is_steady is_closed : O → Bool) where
  -- no call was made
  pub keeps_none : (fault : Type 0) (output : O) → IsFalse (is_closed output) → ¬ fault → KeepsOutput faults is_steady is_closed fault output output
  keeps_none fault output is_open never = record { later = omega arith; cause = λ f. absurd (never f); steady = KeepsSteady-none (is_steady output) (faults output); is_open = is_open }

  -- one call after another
  pub keeps_then : (first fault : Type 0) (old mid new : O) → KeepsOutput faults is_steady is_closed first old mid → KeepsOutput faults is_steady is_closed fault mid new
      → KeepsOutput faults is_steady is_closed fault old new
  keeps_then first fault old mid new p q = record {
    later = omega (arith, p.later, q.later);
    cause = λ f. ⊎_elim (λ (up : faults mid < faults new). inl (omega (arith, p.later, up))) (λ (last : faults new ≡ last_count). inr last) (q.cause f);
    steady = KeepsSteady-trans (is_steady old) (is_steady mid) (is_steady new) (faults old) (faults mid) (faults new) p.steady q.steady;
    is_open = q.is_open;
  }

  -- the same fault by another name
  pub keeps_for : (fault other : Type 0) (old new : O) → (other → fault) → KeepsOutput faults is_steady is_closed fault old new
      → KeepsOutput faults is_steady is_closed other old new
  keeps_for fault other old new named k = record { later = k.later; cause = λ f. k.cause (named f); steady = k.steady; is_open = k.is_open }

-- what follows from what a call that succeeds gives, and one that is refused
pub on_ok_two : {T E : Type 0} (r : Result T E) (P Q R S : Type 0) → OnOk r P → OnOk r Q → OnOk r R → (P → Q → R → S) → OnOk r S
on_ok_two (Ok v) P Q R S p q r go = go p q r
on_ok_two (Err e) P Q R S p q r go = tt

pub on_err_from : {T E : Type 0} (r : Result T E) (P Q : Type 0) → OnErr r P → (P → Q) → OnErr r Q
on_err_from (Ok v) P Q p go = tt
on_err_from (Err e) P Q p go = go p

-- a prefix of fewer lines is one of more
pub front_longer : (p : Option (List ℕ)) (start now : Option (List ℕ)) (files more : List (List ℕ × List ℕ)) → AppendsFront start now (lines p files) → AppendsFront start now (lines p (files ++ more))
front_longer p start now files more f = record {
  front = f.front;
  rest = f.rest ++ lines p more;
  whole = lines-append p files more ∙ ap (λ l. l ++ lines p more) f.whole ∙ append_assoc f.front f.rest (lines p more);
  put = f.put;
}

-- a check stopped at some names, after these files
pub stopped_here : {T E : Type 0} (r : Result T E) (honest : Bool) (images : List ℕ → Image) (names : List (List ℕ)) (p : Option (List ℕ)) (start now : Option (List ℕ)) (files more : List (List ℕ × List ℕ))
    → Finds honest images names more → AppendsFront start now (lines p (files ++ more))
    → OnErr r ((found : List (List ℕ × List ℕ)) × Finds honest images names found × AppendsFront start now (lines p (files ++ found)))
stopped_here (Ok v) honest images names p start now files more finds front = tt
stopped_here (Err e) honest images names p start now files more finds front = (more, finds, front)

pub stopped_all : {T E : Type 0} (r : Result T E) (honest : Bool) (images : List ℕ → Image) (names : List (List ℕ)) (p : Option (List ℕ)) (start now : Option (List ℕ)) (files : List (List ℕ × List ℕ))
    → Finds honest images names files → AppendsFront start now (lines p files)
    → OnErr r ((found : List (List ℕ × List ℕ)) × Finds honest images names found × AppendsFront start now (lines p found))
stopped_all (Ok v) honest images names p start now files finds front = tt
stopped_all (Err e) honest images names p start now files finds front = (files, finds, front)
