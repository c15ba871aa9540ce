-- Reading elements one after the other, as a loop does.
use Rattle.std.proofs.Common.{◌≡◌, ℕ, suc, ◌-◌, ◌+◌, ◌≤◌, ◌<◌, Bool, true, false, cond, List, [], ◌∷◌, ◌++◌, Result, Ok, Err, refl, sym, ap, subst, ◌∙◌, append_assoc, arith}
use Rattle.std.specs.List.{list_any}
use Rattle.std.proofs.lemmas.List.{append-nil}
use Rattle.keyring_text.specs.declared.fault.ReadRefused.{ReadRefused}
use Rattle.keyring_text.specs.declared.fault.ReadRefused.TheVariants as refused
use Rattle.keyring_text.specs.FieldReading.{◌>>=◌, Fails, all_at, keyed_at, new_at}
use Rattle.keyring_text.proofs.Laws.{bind_ok}

-- what was read before, and what is still read
abbrev pub with_front : {A F : Type 0} → List A → Result (List A × List ℕ) F → Result (List A × List ℕ) F
with_front front read = read >>= λ x. Ok (front ++ x.0, x.1)

-- elements and what comes after them
abbrev got : {A F : Type 0} → List A → List ℕ → Result (List A × List ℕ) F
got xs rest = Ok (xs, rest)

regroup : {A F : Type 0} (front : List A) (x : A) (read : Result (List A × List ℕ) F) → with_front front (read >>= λ y. Ok (x ∷ y.0, y.1)) ≡ with_front (front ++ x ∷ []) read
regroup {A} {F} front x (Ok y) = ap (λ (xs : List A). got {F = F} xs y.1) (simp append_assoc)
regroup front x (Err f) = refl

front-nil : {A F : Type 0} (read : Result (List A × List ℕ) F) → with_front [] read ≡ read
front-nil (Ok y) = refl
front-nil (Err f) = refl

front-got : {A F : Type 0} (front : List A) (rest : List ℕ) → with_front {F = F} front (got [] rest) ≡ got front rest
front-got {A} {F} front rest = ap (λ (xs : List A). got {F = F} xs rest) (append-nil front)

-- ---- n elements

module _ {A F : Type 0} (read : List ℕ → Result (A × List ℕ) F) where
  pub all-goes_on : (front : List A) (count i : ℕ) (bytes : List ℕ) (x : A) (after : List ℕ) (total : Result (List A × List ℕ) F) → i < count → read bytes ≡ Ok (x, after) → with_front front (all_at read (count - i) bytes) ≡ total
      → with_front (front ++ x ∷ []) (all_at read (count - (i + 1)) after) ≡ total
  unfolding all_at
  all-goes_on front count i bytes x after total lt h so_far =
      let k : count - i ≡ suc (count - (i + 1)) = omega arith in
      let one : with_front front (all_at read (count - i) bytes) ≡ with_front (front ++ x ∷ []) (all_at read (count - (i + 1)) after) = rw (k, h) (regroup front x (all_at read (count - (i + 1)) after)) in
      sym one ∙ so_far

  pub all-ends : (e : ReadRefused F) (front : List A) (count i : ℕ) (bytes : List ℕ) (total : Result (List A × List ℕ) F) → i < count → Fails e (read bytes) → with_front front (all_at read (count - i) bytes) ≡ total → Fails e total
  unfolding all_at
  all-ends refused.OutOfMemory front count i bytes total lt h so_far = tt
  all-ends (refused.Fault f) front count i bytes total lt h so_far =
      let k : count - i ≡ suc (count - (i + 1)) = omega arith in
      let one : with_front front (all_at read (count - i) bytes) ≡ Err f = rw (k, h) refl in
      sym so_far ∙ one

  pub all-is_done : (front : List A) (count i : ℕ) (bytes : List ℕ) (total : Result (List A × List ℕ) F) → count ≤ i → with_front front (all_at read (count - i) bytes) ≡ total → total ≡ Ok (front, bytes)
  unfolding all_at
  all-is_done front count i bytes total le so_far =
      let k : count - i ≡ 0 = omega arith in
      let one : with_front front (all_at read (count - i) bytes) ≡ got front bytes = rw k (front-got front bytes) in
      sym so_far ∙ one

  pub all-begins : (count : ℕ) (bytes : List ℕ) → with_front [] (all_at read (count - 0) bytes) ≡ all_at read count bytes
  all-begins count bytes = let k : count - 0 ≡ count = omega arith in rw k (front-nil (all_at read count bytes))

-- ---- elements with keys

-- the keys that were seen once these elements were read, the last one first
abbrev pub seen_after : {A K : Type 0} → (A → K) → List A → List K → List K
seen_after key [] seen = seen
seen_after key (x ∷ xs) seen = seen_after key xs (key x ∷ seen)

pub seen_after-push : {A K : Type 0} (key : A → K) (xs : List A) (x : A) (seen : List K) → seen_after key (xs ++ x ∷ []) seen ≡ key x ∷ seen_after key xs seen
seen_after-push key [] x seen = refl
seen_after-push key (y ∷ xs) x seen = seen_after-push key xs x (key y ∷ seen)

module _ {A K F : Type 0} (k_at : List ℕ → Result (K × List ℕ) F) (same : K → K → Bool) (twice : F) (rest_at : K → List ℕ → Result (A × List ℕ) F) (key : A → K) (keeps : (k : K) (bytes : List ℕ) (x : A) (rest : List ℕ) → rest_at k bytes ≡ Ok (x, rest) → key x ≡ k) where
  -- what is still read once these keys were seen
  abbrev still : List K → ℕ → List ℕ → Result (List A × List ℕ) F
  still seen n bytes = keyed_at k_at same twice rest_at seen n bytes

  guard-ok : (b : Bool) (k : K) (bytes : List ℕ) (x : A) (rest : List ℕ) → cond b (Err twice) (rest_at k bytes) ≡ Ok (x, rest) → (b ≡ false) × (rest_at k bytes ≡ Ok (x, rest))
  guard-ok true k bytes x rest e = absurd cc
  guard-ok false k bytes x rest e = (refl, e)

  one-step : (front : List A) (seen : List K) (n : ℕ) (bytes : List ℕ) (x : A) (after : List ℕ) (stood : K → Bool) → ((q : K) → stood q ≡ list_any (same q) seen) → new_at k_at twice rest_at stood bytes ≡ Ok (x, after)
      → with_front front (still seen (suc n) bytes) ≡ with_front (front ++ x ∷ []) (still (key x ∷ seen) n after)
  unfolding keyed_at
  one-step front seen n bytes x after stood agree h =
      let b = bind_ok (k_at bytes) (λ k. cond (stood k.0) (Err twice) (rest_at k.0 k.1)) (x, after) h in
      let g = guard-ok (stood b.x.0) b.x.0 b.x.1 x after b.then_is in
      let new : list_any (same b.x.0) seen ≡ false = sym (agree b.x.0) ∙ g.0 in
      let key-is : key x ≡ b.x.0 = keeps b.x.0 b.x.1 x after g.1 in
      rw (b.was, new, g.1, key-is) (regroup front x (still (b.x.0 ∷ seen) n after))

  one-fault : (front : List A) (seen : List K) (n : ℕ) (bytes : List ℕ) (fault : F) (stood : K → Bool) → ((q : K) → stood q ≡ list_any (same q) seen) → new_at k_at twice rest_at stood bytes ≡ Err fault → with_front front (still seen (suc n) bytes) ≡ Err fault
  unfolding keyed_at
  one-fault front seen n bytes fault stood agree h = one-fault-at front seen n fault stood agree (k_at bytes) h
    where
      one-fault-at : (front : List A) (seen : List K) (n : ℕ) (fault : F) (stood : K → Bool) → ((q : K) → stood q ≡ list_any (same q) seen) → (r : Result (K × List ℕ) F) → (r >>= λ k. cond (stood k.0) (Err twice) (rest_at k.0 k.1)) ≡ Err fault
          → with_front front (r >>= λ k. cond (list_any (same k.0) seen) (Err twice) (rest_at k.0 k.1) >>= λ first. still (k.0 ∷ seen) n first.1 >>= λ others. Ok (first.0 ∷ others.0, others.1)) ≡ Err fault
      one-fault-at front seen n fault stood agree (Ok k) e = let same-test : list_any (same k.0) seen ≡ stood k.0 = sym (agree k.0) in rw (same-test, e) refl
      one-fault-at front seen n fault stood agree (Err f) e = let q : f ≡ fault = cc in ap (λ w. Err w) q

  pub keyed-goes_on : (front : List A) (count i : ℕ) (bytes : List ℕ) (x : A) (after : List ℕ) (stood : K → Bool) (total : Result (List A × List ℕ) F) → i < count → ((q : K) → stood q ≡ list_any (same q) (seen_after key front []))
      → new_at k_at twice rest_at stood bytes ≡ Ok (x, after) → with_front front (still (seen_after key front []) (count - i) bytes) ≡ total → with_front (front ++ x ∷ []) (still (seen_after key (front ++ x ∷ []) []) (count - (i + 1)) after) ≡ total
  keyed-goes_on front count i bytes x after stood total lt agree h so_far =
      let k : count - i ≡ suc (count - (i + 1)) = omega arith in
      let one = one-step front (seen_after key front []) (count - (i + 1)) bytes x after stood agree h in
      let here : with_front front (still (seen_after key front []) (suc (count - (i + 1))) bytes) ≡ total = subst (λ m. with_front front (still (seen_after key front []) m bytes) ≡ total) k so_far in
      ap (λ seen. with_front (front ++ x ∷ []) (still seen (count - (i + 1)) after)) (seen_after-push key front x []) ∙ sym one ∙ here

  pub keyed-ends : (e : ReadRefused F) (front : List A) (count i : ℕ) (bytes : List ℕ) (stood : K → Bool) (total : Result (List A × List ℕ) F) → i < count → ((q : K) → stood q ≡ list_any (same q) (seen_after key front [])) → Fails e (new_at k_at twice rest_at stood bytes)
      → with_front front (still (seen_after key front []) (count - i) bytes) ≡ total → Fails e total
  keyed-ends refused.OutOfMemory front count i bytes stood total lt agree h so_far = tt
  keyed-ends (refused.Fault f) front count i bytes stood total lt agree h so_far =
      let k : count - i ≡ suc (count - (i + 1)) = omega arith in
      let one = one-fault front (seen_after key front []) (count - (i + 1)) bytes f stood agree h in
      let here : with_front front (still (seen_after key front []) (suc (count - (i + 1))) bytes) ≡ total = subst (λ m. with_front front (still (seen_after key front []) m bytes) ≡ total) k so_far in
      sym here ∙ one

  pub keyed-is_done : (front : List A) (seen : List K) (count i : ℕ) (bytes : List ℕ) (total : Result (List A × List ℕ) F) → count ≤ i → with_front front (still seen (count - i) bytes) ≡ total → total ≡ Ok (front, bytes)
  unfolding keyed_at
  keyed-is_done front seen count i bytes total le so_far =
      let k : count - i ≡ 0 = omega arith in
      let one : with_front front (still seen (count - i) bytes) ≡ got front bytes = rw k (front-got front bytes) in
      sym so_far ∙ one

  pub keyed-begins : (count : ℕ) (bytes : List ℕ) → with_front [] (still [] (count - 0) bytes) ≡ still [] count bytes
  keyed-begins count bytes = let k : count - 0 ≡ count = omega arith in rw k (front-nil (still [] count bytes))
