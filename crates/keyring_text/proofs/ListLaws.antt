-- Readers of values of two kinds, of n elements, and of elements with keys, none of which occurs twice.
use Rattle.std.proofs.Common.{◌≡◌, ℕ, zero, suc, ◌<◌, Bool, true, false, cond, ◌||◌, eqb, List, [], ◌∷◌, ◌++◌, length, map, take, Result, Ok, Err, refl, sym, ap, subst, ◌∙◌, append_assoc, arith}
use Rattle.std.specs.List.{list_any, AllByRecursion, IsDistinct}
use Rattle.std.proofs.lemmas.Bool.{eqb-true}
use Rattle.std.proofs.lemmas.List.{append-nil}
use Rattle.keyring_text.specs.Fields.{IsBytes, SpellsNumber}
use Rattle.keyring_text.specs.Forms.{Joined, SpellsAll, SpellsList, SpellsKeyed}
use Rattle.keyring_text.specs.FieldReading.{◌>>=◌, checked, all_at, keyed_at}
use Rattle.keyring_text.proofs.Laws.{Taken, ReadsIf, Always, Reads, Put, Parted, step, field, last, alike, ok_is}

-- the property, stated of the text
pub said : {A F : Type 0} {short : F} {holds : A → Type 0} {P : A → List ℕ → Type 0} {r : List ℕ → Result (A × List ℕ) F} → ReadsIf short holds P r → Reads short (Put holds P) r
said first = alike first (λ a text h p. record { kept = tt; is = record { kept = h; is = p } }) (λ a text k q. q)

-- a value and what comes after it
abbrev pub found : {A F : Type 0} → A → List ℕ → Result (A × List ℕ) F
found x rest = Ok (x, rest)

-- ---- a test

guard-takes : {A F : Type 0} (b : Bool) (fault : F) (a x : A) (bytes rest : List ℕ) → cond b (found a bytes) (Err fault) ≡ found x rest → (b ≡ true) × (a ≡ x) × (bytes ≡ rest)
guard-takes {F = F} true fault a x bytes rest e = (refl, ap (λ (p : _ × List ℕ). p.0) (ok_is {F = F} (a, bytes) (x, rest) e), ap (λ (p : _ × List ℕ). p.1) (ok_is {F = F} (a, bytes) (x, rest) e))
guard-takes false fault a x bytes rest e = absurd cc

guard : {A F : Type 0} {short : F} (test : A → Bool) (fault : F) (a : A) → ReadsIf short (λ b. (test b ≡ true) × (b ≡ a)) (λ b text. text ≡ []) (λ bytes. cond (test a) (Ok (a, bytes)) (Err fault))
guard {A} {F} test fault a =
    record {
      takes = λ bytes x rest fits e. let g = guard-takes (test a) fault a x bytes rest e in record { text = []; parts = g.2; kept = (subst (λ y. test y ≡ true) g.1 g.0, sym g.1); is = refl };
      again = λ x text rest k is. let t : test a ≡ true = subst (λ y. test y ≡ true) k.1 k.0 in ap (λ b. cond b (found a (text ++ rest)) (Err fault)) t ∙ ap (λ w. found {F = F} a (w ++ rest)) is ∙ ap (λ w. found {F = F} w rest) (sym k.1);
      cut = λ x text n k is lt. absurd (omega (arith, ap length is));
    }

-- a value that passes a test
pub tested : {A F : Type 0} {short : F} {P : A → List ℕ → Type 0} {r : List ℕ → Result (A × List ℕ) F} (test : A → Bool) (fault : F) → Reads short P r → ReadsIf short (λ a. test a ≡ true) P (λ bytes. r bytes >>= checked test fault)
tested {P = P} test fault first =
    step first (guard test fault)
    (λ a b front back p q n. record { kept = q.0; is = subst (λ w. P b w) (sym (ap (λ (w : List ℕ). front ++ w) n ∙ append-nil front)) (subst (λ x. P x front) (sym q.1) p) })
    (λ b text h p. record { x = b; front = text; back = []; parts = sym (append-nil text); is_first = p; kept = (h, refl); is_second = refl })

-- ---- n elements

abbrev tail : {A : Type 0} → List A → List A
tail [] = []
tail (x ∷ xs) = xs

abbrev none_of : (A : Type 0) → List A
none_of A = []

none-again : {A F : Type 0} (P : A → List ℕ → Type 0) (xs : List A) (text rest : List ℕ) → length xs ≡ 0 → SpellsAll P xs text → found {F = F} (none_of A) (text ++ rest) ≡ found xs rest
none-again {A} {F} P [] text rest h is = ap (λ (w : List ℕ). found {F = F} (none_of A) (w ++ rest)) is
none-again P (x ∷ xs) text rest h is = absurd cc

none-cut : {A : Type 0} (P : A → List ℕ → Type 0) (xs : List A) (text : List ℕ) (n : ℕ) → length xs ≡ 0 → SpellsAll P xs text → n < length text → ⊥
none-cut P [] text n h is lt = omega (arith, ap length is)
none-cut P (x ∷ xs) text n h is lt = cc

all-zero : {A F : Type 0} {short : F} {P : A → List ℕ → Type 0} → ReadsIf short (λ xs. length xs ≡ 0) (SpellsAll P) (λ bytes. Ok ([], bytes))
all-zero {A} {F} {P = P} =
    record {
      takes = λ bytes x rest fits e.
          let p = ok_is {F = F} ([], bytes) (x, rest) e in
          record { text = []; parts = ap (λ (q : List A × List ℕ). q.1) p; kept = sym (ap (λ (q : List A × List ℕ). length q.0) p); is = subst (λ xs. SpellsAll P xs []) (ap (λ (q : List A × List ℕ). q.0) p) refl };
      again = λ x text rest h is. none-again P x text rest h is;
      cut = λ x text n h is lt. absurd (none-cut P x text n h is lt);
    }

all-down : {A : Type 0} {P : A → List ℕ → Type 0} (n : ℕ) (xs : List A) (text : List ℕ) → length xs ≡ suc n → SpellsAll P xs text → Parted P (λ x ys. ys ≡ x ∷ tail ys) (λ x ys. Put (λ zs. length zs ≡ n) (SpellsAll P) (tail ys)) xs text
all-down n [] text h is = absurd cc
all-down n (x ∷ xs) text h is = record { x = x; front = is.front; back = is.back; parts = is.parts; is_first = is.is_first; kept = refl; is_second = record { kept = cc; is = is.is_second } }

all-up : {A : Type 0} {P : A → List ℕ → Type 0} (n : ℕ) (x : A) (xs : List A) (front back : List ℕ) → P x front → xs ≡ x ∷ tail xs → Put (λ zs. length zs ≡ n) (SpellsAll P) (tail xs) back → Put (λ zs. length zs ≡ suc n) (SpellsAll P) xs (front ++ back)
all-up {P = P} n x xs front back p q others =
    subst (λ ys. Put (λ zs. length zs ≡ suc n) (SpellsAll P) ys (front ++ back)) (sym q) (record { kept = ap (λ m. suc m) others.kept; is = record { front = front; back = back; parts = refl; is_first = p; is_second = others.is } })

-- n elements
pub all_law : {A F : Type 0} {short : F} {P : A → List ℕ → Type 0} {r : List ℕ → Result (A × List ℕ) F} → Reads short P r → (n : ℕ) → ReadsIf short (λ xs. length xs ≡ n) (SpellsAll P) (λ bytes. all_at r n bytes)
unfolding all_at
all_law each zero = all-zero
all_law {P = P} each (suc n) =
    step each
    (λ a. last {holds = λ ys. ys ≡ a ∷ tail ys} tail (said (all_law each n)) (λ ys. a ∷ ys) (λ ys. (refl, refl)) (λ ys q. sym q))
    (all-up n)
    (all-down n)

-- ---- two kinds of values

-- a value by its kind, with what follows the kind
pub data ByKind {A : Type 0} (Z N : A → List ℕ → Type 0) (kind : ℕ) (x : A) (text : List ℕ) : Type 0 where
  zeroth : kind ≡ 0 → Z x text → ByKind Z N kind x text
  first : kind ≡ 1 → N x text → ByKind Z N kind x text

kinds-takes : {A F : Type 0} {short : F} {Z N : A → List ℕ → Type 0} {z n : List ℕ → Result (A × List ℕ) F} (bad : F) → Reads short Z z → Reads short N n → (kind : ℕ) (b c : Bool) → eqb kind 0 ≡ b → eqb kind 1 ≡ c → (bytes : List ℕ) (x : A) (rest : List ℕ) → IsBytes bytes
    → cond b (z bytes) (cond c (n bytes) (Err bad)) ≡ Ok (x, rest) → Taken Always (ByKind Z N kind) bytes x rest
kinds-takes bad Zs Ns kind true c p q bytes x rest fits e = let t = Zs.takes bytes x rest fits e in record { text = t.text; parts = t.parts; kept = tt; is = zeroth (eqb-true kind 0 p) t.is }
kinds-takes bad Zs Ns kind false true p q bytes x rest fits e = let t = Ns.takes bytes x rest fits e in record { text = t.text; parts = t.parts; kept = tt; is = first (eqb-true kind 1 q) t.is }
kinds-takes bad Zs Ns kind false false p q bytes x rest fits e = absurd cc

kinds-again : {A F : Type 0} {short : F} {Z N : A → List ℕ → Type 0} {z n : List ℕ → Result (A × List ℕ) F} (bad : F) → Reads short Z z → Reads short N n → (kind : ℕ) (x : A) (text rest : List ℕ) → ByKind Z N kind x text
    → cond (eqb kind 0) (z (text ++ rest)) (cond (eqb kind 1) (n (text ++ rest)) (Err bad)) ≡ Ok (x, rest)
kinds-again bad Zs Ns kind x text rest (zeroth e is) = rw e (Zs.again x text rest tt is)
kinds-again bad Zs Ns kind x text rest (first e is) = rw e (Ns.again x text rest tt is)

kinds-cut : {A F : Type 0} {short : F} {Z N : A → List ℕ → Type 0} {z n : List ℕ → Result (A × List ℕ) F} (bad : F) → Reads short Z z → Reads short N n → (kind : ℕ) (x : A) (text : List ℕ) (m : ℕ) → ByKind Z N kind x text → m < length text
    → cond (eqb kind 0) (z (take m text)) (cond (eqb kind 1) (n (take m text)) (Err bad)) ≡ Err short
kinds-cut bad Zs Ns kind x text m (zeroth e is) lt = rw e (Zs.cut x text m tt is lt)
kinds-cut bad Zs Ns kind x text m (first e is) lt = rw e (Ns.cut x text m tt is lt)

pub kinds_law : {A F : Type 0} {short : F} {Z N : A → List ℕ → Type 0} {z n : List ℕ → Result (A × List ℕ) F} (bad : F) → Reads short Z z → Reads short N n → (kind : ℕ)
    → Reads short (ByKind Z N kind) (λ bytes. cond (eqb kind 0) (z bytes) (cond (eqb kind 1) (n bytes) (Err bad)))
kinds_law bad Zs Ns kind =
    record {
      takes = λ bytes x rest fits e. kinds-takes bad Zs Ns kind (eqb kind 0) (eqb kind 1) refl refl bytes x rest fits e;
      again = λ x text rest h b. kinds-again bad Zs Ns kind x text rest b;
      cut = λ x text m h b lt. kinds-cut bad Zs Ns kind x text m b lt;
    }

-- ---- elements with keys

-- no key is in `seen`, nor occurs twice
abbrev pub Fresh : {A K : Type 0} → (A → K) → (K → K → Bool) → List K → List A → Type 0
Fresh key same seen [] = Unit {0}
Fresh key same seen (x ∷ xs) = (list_any (same (key x)) seen ≡ false) × Fresh key same (key x ∷ seen) xs

-- n elements, none of whose keys was seen before
pub record FreshOf {A K : Type 0} (key : A → K) (same : K → K → Bool) (seen : List K) (n : ℕ) (xs : List A) : Type 0 where
  pub len : length xs ≡ n
  pub fresh : Fresh key same seen xs

-- an element whose key was read, if the key is new
pub record NewOf {A K : Type 0} (key : A → K) (same : K → K → Bool) (seen : List K) (E : A → List ℕ → Type 0) (k : K) (x : A) (text : List ℕ) : Type 0 where
  pub is_new : list_any (same k) seen ≡ false
  pub key_is : key x ≡ k
  pub is : E x text

-- the elements once a key was read: the one with this key, and others
pub record Inner {A K : Type 0} (key : A → K) (same : K → K → Bool) (seen : List K) (P : K → List ℕ → Type 0) (E : A → List ℕ → Type 0) (n : ℕ) (k : K) (xs : List A) (text : List ℕ) : Type 0 where
  pub x : A
  pub rest : List A
  pub xs_is : xs ≡ x ∷ rest
  pub text_is : Joined (NewOf key same seen E k x) (Put (FreshOf key same (k ∷ seen) n) (SpellsAll (λ y. Joined (P (key y)) (E y))) rest) text

module _ {A K F : Type 0} {short : F} {P : K → List ℕ → Type 0} {E : A → List ℕ → Type 0} {k_at : List ℕ → Result (K × List ℕ) F} {rest_at : K → List ℕ → Result (A × List ℕ) F} (key : A → K) (same : K → K → Bool) (twice : F)
    (keys : Reads short P k_at) (values : (k : K) → ReadsIf short (λ x. key x ≡ k) E (rest_at k)) where
  new-takes : (seen : List K) (k : K) (b : Bool) → list_any (same k) seen ≡ b → (bytes : List ℕ) (x : A) (rest : List ℕ) → IsBytes bytes → cond b (Err twice) (rest_at k bytes) ≡ Ok (x, rest) → Taken Always (NewOf key same seen E k) bytes x rest
  new-takes seen k true p bytes x rest fits e = absurd cc
  new-takes seen k false p bytes x rest fits e =
      let t = (values k).takes bytes x rest fits e in record { text = t.text; parts = t.parts; kept = tt; is = record { is_new = p; key_is = t.kept; is = t.is } }

  new_law : (seen : List K) (k : K) → Reads short (NewOf key same seen E k) (λ bytes. cond (list_any (same k) seen) (Err twice) (rest_at k bytes))
  new_law seen k =
      record {
        takes = new-takes seen k (list_any (same k) seen) refl;
        again = λ x text rest h n. rw n.is_new ((values k).again x text rest n.key_is n.is);
        cut = λ x text m h n lt. rw n.is_new ((values k).cut x text m n.key_is n.is lt);
      }

  -- an element that begins with its key
  abbrev Element : A → List ℕ → Type 0
  Element y = Joined (P (key y)) (E y)

  keyed-nil-up : (seen : List K) (xs : List A) → length xs ≡ 0 → FreshOf key same seen 0 xs
  keyed-nil-up seen [] h = record { len = refl; fresh = tt }
  keyed-nil-up seen (x ∷ xs) h = absurd cc

  inner-up : (seen : List K) (n : ℕ) (k : K) (x : A) (xs : List A) (front back : List ℕ) → NewOf key same seen E k x front → xs ≡ x ∷ tail xs → Put (FreshOf key same (k ∷ seen) n) (SpellsAll Element) (tail xs) back
      → Put Always (Inner key same seen P E n k) xs (front ++ back)
  inner-up seen n k x xs front back new e others =
      record { kept = tt; is = record { x = x; rest = tail xs; xs_is = e; text_is = record { front = front; back = back; parts = refl; is_first = new; is_second = others } } }

  inner-down : (seen : List K) (n : ℕ) (k : K) (xs : List A) (text : List ℕ) → Inner key same seen P E n k xs text
      → Parted (NewOf key same seen E k) (λ x ys. ys ≡ x ∷ tail ys) (λ x ys. Put (FreshOf key same (k ∷ seen) n) (SpellsAll Element) (tail ys)) xs text
  inner-down seen n k xs text i =
      let t = i.text_is in
      let rest-is : tail xs ≡ i.rest = ap tail i.xs_is in
      record {
        x = i.x;
        front = t.front;
        back = t.back;
        parts = t.parts;
        is_first = t.is_first;
        kept = i.xs_is ∙ ap (λ ys. i.x ∷ ys) (sym rest-is);
        is_second = subst (λ ys. Put (FreshOf key same (k ∷ seen) n) (SpellsAll Element) ys t.back) (sym rest-is) t.is_second;
      }

  outer-at : (seen : List K) (n : ℕ) (k : K) (x : A) (rest : List A) (front back : List ℕ) → P k front → Joined (NewOf key same seen E k x) (Put (FreshOf key same (k ∷ seen) n) (SpellsAll Element) rest) back
      → Put (FreshOf key same seen (suc n)) (SpellsAll Element) (x ∷ rest) (front ++ back)
  outer-at seen n k x rest front back p j =
      let key-is = j.is_first.key_is in
      let P-at : P (key x) front = subst (λ q. P q front) (sym key-is) p in
      let new-at : list_any (same (key x)) seen ≡ false = subst (λ q. list_any (same q) seen ≡ false) (sym key-is) j.is_first.is_new in
      let fresh-at : Fresh key same (key x ∷ seen) rest = subst (λ q. Fresh key same (q ∷ seen) rest) (sym key-is) j.is_second.kept.fresh in
      record {
        kept = record { len = ap (λ m. suc m) j.is_second.kept.len; fresh = (new-at, fresh-at) };
        is = record {
          front = front ++ j.front;
          back = j.back;
          parts = ap (λ w. front ++ w) j.parts ∙ sym (append_assoc front j.front j.back);
          is_first = record { front = front; back = j.front; parts = refl; is_first = P-at; is_second = j.is_first.is };
          is_second = j.is_second.is;
        };
      }

  outer-up : (seen : List K) (n : ℕ) (k : K) (xs : List A) (front back : List ℕ) → P k front → Inner key same seen P E n k xs back → Put (FreshOf key same seen (suc n)) (SpellsAll Element) xs (front ++ back)
  outer-up seen n k xs front back p i =
      subst (λ ys. Put (FreshOf key same seen (suc n)) (SpellsAll Element) ys (front ++ back)) (sym i.xs_is) (outer-at seen n k i.x i.rest front back p i.text_is)

  outer-down : (seen : List K) (n : ℕ) (xs : List A) (text : List ℕ) → FreshOf key same seen (suc n) xs → SpellsAll Element xs text → Parted P (λ k (ys : List A). Always ys) (Inner key same seen P E n) xs text
  outer-down seen n [] text f is = absurd (omega (arith, f.len))
  outer-down seen n (x ∷ rest) text f is =
      let j = is.is_first in
      record {
        x = key x;
        front = j.front;
        back = j.back ++ is.back;
        parts = is.parts ∙ ap (λ w. w ++ is.back) j.parts ∙ append_assoc j.front j.back is.back;
        is_first = j.is_first;
        kept = tt;
        is_second = record {
          x = x;
          rest = rest;
          xs_is = refl;
          text_is = record {
            front = j.back;
            back = is.back;
            parts = refl;
            is_first = record { is_new = f.fresh.0; key_is = refl; is = j.is_second };
            is_second = record { kept = record { len = omega (arith, f.len); fresh = f.fresh.1 }; is = is.is_second };
          };
        };
      }

  pub keyed_law : (n : ℕ) (seen : List K) → ReadsIf short (FreshOf key same seen n) (SpellsAll Element) (λ bytes. keyed_at k_at same twice rest_at seen n bytes)
  unfolding keyed_at
  keyed_law zero seen = alike (all-zero {P = Element}) (λ xs text h is. record { kept = keyed-nil-up seen xs h; is = is }) (λ xs text f is. record { kept = f.len; is = is })
  keyed_law (suc n) seen =
      step keys
      (λ k.
      step (new_law seen k) (λ x. last {holds = λ ys. ys ≡ x ∷ tail ys} tail (said (keyed_law n (k ∷ seen))) (λ ys. x ∷ ys) (λ ys. (refl, refl)) (λ ys q. sym q)) (inner-up seen n k)
      (λ xs text h i. inner-down seen n k xs text i))
      (λ k xs front back p h i. outer-up seen n k xs front back p i)
      (outer-down seen n)

-- ---- no key twice

all-map : {K : Type 0} {P Q : K → Type 0} → ((k : K) → P k → Q k) → (ks : List K) → AllByRecursion P ks → AllByRecursion Q ks
all-map f [] h = tt
all-map f (k ∷ ks) h = (f k h.0, all-map f ks h.1)

all-both : {K : Type 0} (P Q : K → Type 0) (ks : List K) → AllByRecursion P ks → AllByRecursion Q ks → AllByRecursion (λ k. P k × Q k) ks
all-both P Q [] g h = tt
all-both P Q (k ∷ ks) g h = ((g.0, h.0), all-both P Q ks g.1 h.1)

or-false : (a b : Bool) → (a || b) ≡ false → (a ≡ false) × (b ≡ false)
or-false true b e = absurd cc
or-false false b e = (refl, e)

or-of : (a b : Bool) → a ≡ false → b ≡ false → (a || b) ≡ false
or-of a b p q = rw (p, q) refl

module _ {A K : Type 0} (key : A → K) (same : K → K → Bool) (symm : (x y : K) → same x y ≡ same y x) where
  new-distinct : (seen : List K) (xs : List A) → Fresh key same seen xs → AllByRecursion (λ k. list_any (same k) seen ≡ false) (map key xs) × IsDistinct same (map key xs)
  unfolding IsDistinct
  new-distinct seen [] f = (tt, tt)
  new-distinct seen (x ∷ xs) f =
      let r = new-distinct (key x ∷ seen) xs f.1 in
      ((f.0, all-map (λ k e. (or-false (same k (key x)) (list_any (same k) seen) e).1) (map key xs) r.0), (all-map (λ k e. symm (key x) k ∙ (or-false (same k (key x)) (list_any (same k) seen) e).0) (map key xs) r.0, r.1))

  new-fresh : (seen : List K) (xs : List A) → AllByRecursion (λ k. list_any (same k) seen ≡ false) (map key xs) → IsDistinct same (map key xs) → Fresh key same seen xs
  unfolding IsDistinct
  new-fresh seen [] g d = tt
  new-fresh seen (x ∷ xs) g d =
      (g.0, new-fresh (key x ∷ seen) xs (all-map (λ k e. or-of (same k (key x)) (list_any (same k) seen) (symm k (key x) ∙ e.0) e.1) (map key xs) (all-both (λ k. same (key x) k ≡ false) (λ k. list_any (same k) seen ≡ false) (map key xs) d.0 g.1)) d.1)

  all-new : (xs : List A) → AllByRecursion (λ k. list_any (same k) [] ≡ false) (map key xs)
  all-new [] = tt
  all-new (x ∷ xs) = (refl, all-new xs)

  pub distinct-from_fresh : (xs : List A) → Fresh key same [] xs → IsDistinct same (map key xs)
  distinct-from_fresh xs f = (new-distinct [] xs f).1

  pub fresh-from_distinct : (xs : List A) → IsDistinct same (map key xs) → Fresh key same [] xs
  fresh-from_distinct xs d = new-fresh [] xs (all-new xs) d

-- ---- a number of elements, and the elements

pub list_law : {A F : Type 0} {short : F} {P : A → List ℕ → Type 0} {count : List ℕ → Result (ℕ × List ℕ) F} {r : List ℕ → Result (A × List ℕ) F} → Reads short SpellsNumber count → Reads short P r
    → Reads short (SpellsList P) (λ bytes. count bytes >>= λ n. all_at r n.0 n.1)
list_law numbers each =
    field length numbers (λ n. alike (all_law each n) (λ xs text h is. record { kept = (tt, h); is = is }) (λ xs text k is. record { kept = k.1; is = is }))

pub keyed_list_law : {A K F : Type 0} {short : F} {P : K → List ℕ → Type 0} {E : A → List ℕ → Type 0} {count : List ℕ → Result (ℕ × List ℕ) F} {k_at : List ℕ → Result (K × List ℕ) F} {rest_at : K → List ℕ → Result (A × List ℕ) F} (key : A → K) (same : K → K → Bool) (symm : (x y : K) → same x y ≡ same y x) (twice : F)
    → Reads short SpellsNumber count → Reads short P k_at → ((k : K) → ReadsIf short (λ x. key x ≡ k) E (rest_at k)) → Reads short (SpellsKeyed key same (λ y. Joined (P (key y)) (E y))) (λ bytes. count bytes >>= λ n. keyed_at k_at same twice rest_at [] n.0 n.1)
keyed_list_law key same symm twice numbers keys values =
    alike
    (field {holds = λ xs. Fresh key same [] xs} length numbers
    (λ n. alike (keyed_law key same twice keys values n []) (λ xs text f is. record { kept = (f.fresh, f.len); is = is }) (λ xs text k is. record { kept = record { len = k.1; fresh = k.0 }; is = is })))
    (λ xs text f is. record { kept = tt; is = record { distinct = distinct-from_fresh key same symm xs f; list = is } })
    (λ xs text h s. record { kept = fresh-from_distinct key same symm xs s.distinct; is = s.list })
