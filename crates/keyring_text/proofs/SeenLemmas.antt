-- A key that is added to a set is seen from then on.
use Rattle.std.proofs.Common.{◌≡◌, ℕ, Bool, true, false, not, ◌||◌, List, [], ◌∷◌, Result, Ok, Err, refl, sym, ap, subst, ◌∙◌}
use Rattle.std.specs.declared.cmp.Ordering.{Ordering}
use Rattle.std.specs.declared.cmp.Ordering.TheVariants.{Less, Equal, Greater}
use Rattle.std.specs.BTreeSet.{insert_key}
use Rattle.std.specs.List.{list_any}
use Rattle.std.specs.Ordering.{is_eq, match_ordering}
use Rattle.keyring_text.specs.declared.fault.ReadRefused.{ReadRefused}
use Rattle.keyring_text.specs.declared.fault.ReadRefused.TheVariants as refused
use Rattle.keyring_text.specs.FieldReading.{◌>>=◌, Fails, new_at}
use Rattle.keyring_text.specs.Seen.{stood_in, AddsKey}

pub or-swap : (a b c : Bool) → (a || (b || c)) ≡ (b || (a || c))
or-swap true true c = refl
or-swap true false c = refl
or-swap false true c = refl
or-swap false false c = refl

or-off : (a b : Bool) → (a || b) ≡ false → (a ≡ false) × (b ≡ false)
or-off true b e = absurd cc
or-off false b e = (refl, e)

module _ {K : Type 0} (cmp : K → K → Ordering) (p : K → Bool) (k : K) where
  at_order : (o : Ordering) (x : K) (xs : List K) → is_eq o ≡ false → list_any p (insert_key cmp xs k) ≡ (p k || list_any p xs) → list_any p (match_ordering o (k ∷ x ∷ xs) (x ∷ xs) (x ∷ insert_key cmp xs k)) ≡ (p k || (p x || list_any p xs))
  at_order Less x xs e h = refl
  at_order Equal x xs e h = absurd cc
  at_order Greater x xs e h = ap (λ b. p x || b) h ∙ or-swap (p x) (p k) (list_any p xs)

  pub any-insert_key : (ks : List K) → list_any (λ x. is_eq (cmp k x)) ks ≡ false → list_any p (insert_key cmp ks k) ≡ (p k || list_any p ks)
  any-insert_key [] e = refl
  any-insert_key (x ∷ xs) e = let o = or-off (is_eq (cmp k x)) (list_any (λ y. is_eq (cmp k y)) xs) e in at_order (cmp k x) x xs o.0 (any-insert_key xs o.1)

not_on : (b : Bool) → true ≡ not b → b ≡ false
not_on true e = absurd cc
not_on false e = refl

-- a key that was new, added to a set
pub adds_key : {K Q : Type 0} (same : Q → Q → Bool) (view : K → Q) (cmp : K → K → Ordering) (k : K) (old new : List K) → true ≡ not (list_any (λ x. is_eq (cmp k x)) old) → new ≡ insert_key cmp old k → AddsKey same view old new (view k)
adds_key same view cmp k old new added is q = ap (λ ks. list_any (λ x. same q (view x)) ks) is ∙ any-insert_key cmp (λ x. same q (view x)) k old (not_on _ added)

-- a key was seen if the set's order finds it
pub any-alike : {K : Type 0} (p q : K → Bool) → ((x : K) → p x ≡ q x) → (ks : List K) → list_any p ks ≡ list_any q ks
any-alike p q h [] = refl
any-alike p q h (x ∷ xs) = ap (λ b. b || list_any p xs) (h x) ∙ ap (λ b. q x || b) (any-alike p q h xs)

-- what the set has is what was seen, one more key included
pub seen_more : {K Q : Type 0} (same : Q → Q → Bool) (view : K → Q) (old new : List K) (key : Q) (seen : List Q) → ((q : Q) → stood_in same view old q ≡ list_any (same q) seen) → AddsKey same view old new key → (q : Q) → stood_in same view new q ≡ list_any (same q) (key ∷ seen)
seen_more same view old new key seen agree adds q = adds q ∙ ap (λ b. same q key || b) (agree q)

-- ---- a key that was read and added to the set

module _ {A K F : Type 0} (key_at : List ℕ → Result (K × List ℕ) F) (twice : F) (rest_at : K → List ℕ → Result (A × List ℕ) F) (stood : K → Bool) (bytes rest : List ℕ) (k s : K) (added : Bool) where
  -- it occurred before
  pub new-twice : key_at bytes ≡ Ok (k, rest) → s ≡ k → added ≡ not (stood s) → added ≡ false → new_at key_at twice rest_at stood bytes ≡ Err twice
  new-twice was e is off =
      let on : stood k ≡ true = subst (λ q. stood q ≡ true) e (not_off (stood s) added is off) in
      rw (was, on) refl
    where
      not_off : (b c : Bool) → c ≡ not b → c ≡ false → b ≡ true
      not_off true c p q = refl
      not_off false c p q = absurd cc

  -- it is new
  pub new-rest : key_at bytes ≡ Ok (k, rest) → s ≡ k → added ≡ not (stood s) → added ≡ true → new_at key_at twice rest_at stood bytes ≡ rest_at k rest
  new-rest was e is on =
      let off : stood k ≡ false = subst (λ q. stood q ≡ false) e (not_on (stood s) (sym on ∙ is)) in
      rw (was, off) refl

-- a step that fails
pub fails-bind : {A B F : Type 0} (e : ReadRefused F) (r : Result A F) (f : A → Result B F) → Fails e r → Fails e (r >>= f)
fails-bind refused.OutOfMemory r f h = tt
fails-bind (refused.Fault x) r f h = rw h refl
