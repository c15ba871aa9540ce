-- What is read is spelled that way.
use Rattle.std.proofs.Common.{◌≡◌, ℕ, ◌+◌, ◌%◌, ◌^◌, ◌<◌, ◌==◌, ◌&&◌, Bool, true, false, cond, List, [], ◌∷◌, ◌++◌, length, take, drop, get_or, Result, Ok, Err, refl, sym, ap, subst, ◌∙◌, arith, inl, inr, append_assoc, length-append}
use Rattle.std.specs.Int.{Width, w8, w16, w32, w64, byte_len}
use Rattle.std.proofs.lemmas.Bool.{cases_lt, eqb-true, lt-ltb, le-ltb}
use Rattle.std.proofs.lemmas.List.{take-append-drop, length-take, get_or-drop, get_or-take, get_or_past, take_at}
use Rattle.std.proofs.lemmas.Nat.{from_le_bytes-to_le_bytes_2, from_be_bytes-to_be_bytes_2, from_le_bytes-to_le_bytes_4, from_be_bytes-to_be_bytes_4, from_le_bytes-to_le_bytes_8, from_be_bytes-to_be_bytes_8, le_bytes_2, be_bytes_2, le_bytes_4, be_bytes_4, le_bytes_8, be_bytes_8}
use Rattle.dbus_types.specs.declared.endian.Endian.{Endian}
use Rattle.dbus_types.specs.declared.endian.Endian.TheVariants.{Little, Big}
use Rattle.dbus_types.specs.Signatures.{◌>>=◌}
use Rattle.dbus_marshal.specs.declared.refused.ValueFault.{ValueFault}
use Rattle.dbus_marshal.specs.declared.refused.ValueFault.TheVariants.{Short, Padding}
use Rattle.dbus_marshal.specs.Wire.{padding, behind, zeros, number_bytes, number_from}
use Rattle.dbus_marshal.specs.Spelling.{aligned}
use Rattle.dbus_marshal.specs.Unmarshal.{Spot, further, bytes_at, padding_at, number_at, are_zero}

abbrev pub IsBytes : List ℕ → Type 0
IsBytes bytes = (i : ℕ) → get_or bytes i 0 < 256

IsBytes-drop : (n : ℕ) (bytes : List ℕ) → IsBytes bytes → IsBytes (drop n bytes)
IsBytes-drop n bytes h i = rw get_or-drop (h (n + i))

IsBytes-take : (n : ℕ) (bytes : List ℕ) → IsBytes bytes → IsBytes (take n bytes)
IsBytes-take n bytes h i =
    elim (cases_lt i n) [
      | inl lt ↦ rw (get_or-take n bytes i 0 lt) (h i)
      | inr le ↦ rw (get_or_past (take n bytes) i 0 (omega (arith, length-take n bytes))) (omega arith)
    ]

-- the value of a step that didn't fail
pub bind_ok : {A B E : Type 0} (r : Result A E) (f : A → Result B E) (y : B) → (r >>= f) ≡ Ok y → (x : A) × (r ≡ Ok x) × (f x ≡ Ok y)
bind_ok (Ok x) f y e = (x, refl, e)
bind_ok (Err d) f y e = absurd cc

-- what a reader took from the start
pub record Takes (spot : Spot) (bytes : List ℕ) (after : Spot) : Type 0 where
  pub parts : spot.left ≡ bytes ++ after.left
  pub place : after.place ≡ behind spot.place (length bytes)
  pub fits : IsBytes after.left

pub Takes-then : (a : Spot) (x : List ℕ) (b : Spot) (y : List ℕ) (c : Spot) → Takes a x b → Takes b y c → Takes a (x ++ y) c
Takes-then a x b y c p q = record {
  parts = p.parts ∙ ap (λ (t : List ℕ). x ++ t) q.parts ∙ sym (append_assoc x y c.left);
  place = q.place ∙ omega (arith, p.place, length-append x y);
  fits = q.fits;
}

abbrev found : List ℕ × Spot → Result (List ℕ × Spot) ValueFault
found x = Ok x

found_is : (x y : List ℕ × Spot) → found x ≡ found y → x ≡ y
found_is x y e = cc

pub bytes_taken : (n : ℕ) (spot : Spot) (x : List ℕ × Spot) → IsBytes spot.left → bytes_at n spot ≡ Ok x → Takes spot x.0 x.1 × (length x.0 ≡ n) × IsBytes x.0
unfolding bytes_at
bytes_taken n spot x fits e = elim (cases_lt (length spot.left) n) [
  | inl lt ↦
      let none : Err Short ≡ found x = subst (λ (b : Bool). cond b (Err Short) (Ok (take n spot.left, further n spot)) ≡ Ok x) (lt-ltb _ _ lt) e in
      absurd cc
  | inr le ↦
      let some : found (take n spot.left, further n spot) ≡ found x = subst (λ (b : Bool). cond b (Err Short) (Ok (take n spot.left, further n spot)) ≡ Ok x) (le-ltb _ _ le) e in
      let long : length (take n spot.left) ≡ n = omega (arith, length-take n spot.left) in
      subst (λ (y : List ℕ × Spot). Takes spot y.0 y.1 × (length y.0 ≡ n) × IsBytes y.0) (found_is (take n spot.left, further n spot) x some)
      (record { parts = sym (take-append-drop n spot.left); place = ap (behind spot.place) (sym long); fits = IsBytes-drop n spot.left fits }, long, IsBytes-take n spot.left fits)
]

pub both_true : (a b : Bool) → (a && b) ≡ true → (a ≡ true) × (b ≡ true)
both_true true b e = (refl, e)
both_true false b e = absurd cc

zeros_are : (bytes : List ℕ) → are_zero bytes ≡ true → bytes ≡ zeros (length bytes)
zeros_are [] e = refl
zeros_are (b ∷ bytes) e =
    let each = both_true (b == 0) (are_zero bytes) e in
    let first : b ≡ 0 = eqb-true b 0 each.0 in
    let others = zeros_are bytes each.1 in
    ap (λ (k : ℕ). k ∷ bytes) first ∙ ap (λ (bs : List ℕ). 0 ∷ bs) others

abbrev stands : Spot → Result Spot ValueFault
stands x = Ok x

spot_is : (x y : Spot) → stands x ≡ stands y → x ≡ y
spot_is x y e = cc

padding_by : (test : Bool) (n : ℕ) (spot after : Spot) → IsBytes spot.left → are_zero (take n spot.left) ≡ test → cond test (bytes_at n spot >>= λ x. Ok x.1) (Err Padding) ≡ Ok after → Takes spot (zeros n) after
padding_by true n spot after fits cleared e =
    let a = bind_ok (bytes_at n spot) (λ x. Ok x.1) after e in
    let got = bytes_taken n spot a.0 fits a.1 in
    let taken : take n spot.left ≡ a.0.0 = ap (take n) got.0.parts ∙ take_at a.0.0 a.0.1.left n got.1 in
    let is : a.0.0 ≡ zeros n = sym taken ∙ zeros_are (take n spot.left) cleared ∙ ap zeros (ap length taken ∙ got.1) in
    subst (λ (bs : List ℕ). Takes spot bs after) is (subst (λ (s : Spot). Takes spot a.0.0 s) (spot_is a.0.1 after a.2) got.0)
padding_by false n spot after fits cleared e = absurd cc

pub padding_taken : (alignment : ℕ) (spot after : Spot) → IsBytes spot.left → padding_at alignment spot ≡ Ok after → Takes spot (zeros (padding alignment spot.place)) after
unfolding padding_at
padding_taken alignment spot after fits e =
    padding_by (are_zero (take (padding alignment spot.place) spot.left)) (padding alignment spot.place) spot after fits refl e

-- ---- numbers

-- numbers of a width to bytes, and back
pub record IsWide (w : Width) (limit : ℕ) : Type 0 where
  pub len : (endian : Endian) (n : ℕ) → length (number_bytes endian w n) ≡ byte_len w
  pub back : (endian : Endian) (bytes : List ℕ) → length bytes ≡ byte_len w → IsBytes bytes → number_bytes endian w (number_from endian w bytes) ≡ bytes
  pub again : (endian : Endian) (n : ℕ) → n < limit → number_from endian w (number_bytes endian w n) ≡ n
  pub below : (endian : Endian) (bytes : List ℕ) → IsBytes bytes → number_from endian w bytes < limit

len16 : (endian : Endian) (n : ℕ) → length (number_bytes endian w16 n) ≡ 2
unfolding number_bytes
len16 Little n = refl
len16 Big n = refl

back16 : (endian : Endian) (bytes : List ℕ) → length bytes ≡ 2 → IsBytes bytes → number_bytes endian w16 (number_from endian w16 bytes) ≡ bytes
unfolding number_bytes number_from
back16 Little bytes len fits = le_bytes_2 bytes _ len fits refl
back16 Big bytes len fits = be_bytes_2 bytes _ len fits refl

again16 : (endian : Endian) (n : ℕ) → n < 2 ^ 16 → number_from endian w16 (number_bytes endian w16 n) ≡ n
unfolding number_bytes number_from
again16 Little n lt = from_le_bytes-to_le_bytes_2 n lt
again16 Big n lt = from_be_bytes-to_be_bytes_2 n lt

below16 : (endian : Endian) (bytes : List ℕ) → IsBytes bytes → number_from endian w16 bytes < 2 ^ 16
unfolding number_from
below16 Little bytes fits = omega (arith, fits 0, fits 1)
below16 Big bytes fits = omega (arith, fits 0, fits 1)

pub wide16 : IsWide w16 (2 ^ 16)
wide16 = record { len = len16; back = back16; again = again16; below = below16 }

len32 : (endian : Endian) (n : ℕ) → length (number_bytes endian w32 n) ≡ 4
unfolding number_bytes
len32 Little n = refl
len32 Big n = refl

back32 : (endian : Endian) (bytes : List ℕ) → length bytes ≡ 4 → IsBytes bytes → number_bytes endian w32 (number_from endian w32 bytes) ≡ bytes
unfolding number_bytes number_from
back32 Little bytes len fits = le_bytes_4 bytes _ len fits refl
back32 Big bytes len fits = be_bytes_4 bytes _ len fits refl

again32 : (endian : Endian) (n : ℕ) → n < 2 ^ 32 → number_from endian w32 (number_bytes endian w32 n) ≡ n
unfolding number_bytes number_from
again32 Little n lt = from_le_bytes-to_le_bytes_4 n lt
again32 Big n lt = from_be_bytes-to_be_bytes_4 n lt

below32 : (endian : Endian) (bytes : List ℕ) → IsBytes bytes → number_from endian w32 bytes < 2 ^ 32
unfolding number_from
below32 Little bytes fits = omega (arith, fits 0, fits 1, fits 2, fits 3)
below32 Big bytes fits = omega (arith, fits 0, fits 1, fits 2, fits 3)

pub wide32 : IsWide w32 (2 ^ 32)
wide32 = record { len = len32; back = back32; again = again32; below = below32 }

len64 : (endian : Endian) (n : ℕ) → length (number_bytes endian w64 n) ≡ 8
unfolding number_bytes
len64 Little n = refl
len64 Big n = refl

back64 : (endian : Endian) (bytes : List ℕ) → length bytes ≡ 8 → IsBytes bytes → number_bytes endian w64 (number_from endian w64 bytes) ≡ bytes
unfolding number_bytes number_from
back64 Little bytes len fits = le_bytes_8 bytes _ len fits refl
back64 Big bytes len fits = be_bytes_8 bytes _ len fits refl

again64 : (endian : Endian) (n : ℕ) → n < 2 ^ 64 → number_from endian w64 (number_bytes endian w64 n) ≡ n
unfolding number_bytes number_from
again64 Little n lt = from_le_bytes-to_le_bytes_8 n lt
again64 Big n lt = from_be_bytes-to_be_bytes_8 n lt

below64 : (endian : Endian) (bytes : List ℕ) → IsBytes bytes → number_from endian w64 bytes < 2 ^ 64
unfolding number_from
below64 Little bytes fits = omega (arith, fits 0, fits 1, fits 2, fits 3, fits 4, fits 5, fits 6, fits 7)
below64 Big bytes fits = omega (arith, fits 0, fits 1, fits 2, fits 3, fits 4, fits 5, fits 6, fits 7)

pub wide64 : IsWide w64 (2 ^ 64)
wide64 = record { len = len64; back = back64; again = again64; below = below64 }

len8 : (endian : Endian) (n : ℕ) → length (number_bytes endian w8 n) ≡ 1
unfolding number_bytes
len8 Little n = refl
len8 Big n = refl

one_byte : (b n : ℕ) → b < 256 → n ≡ b → n % 256 ∷ [] ≡ b ∷ []
one_byte b n lt same = ap (λ (k : ℕ). k ∷ []) (omega arith)

back8 : (endian : Endian) (bytes : List ℕ) → length bytes ≡ 1 → IsBytes bytes → number_bytes endian w8 (number_from endian w8 bytes) ≡ bytes
unfolding number_bytes number_from
back8 endian [] len fits = absurd (omega arith)
back8 Little (b ∷ []) len fits = one_byte b b (fits 0) refl
back8 Big (b ∷ []) len fits = one_byte b b (fits 0) refl
back8 endian (b ∷ c ∷ bytes) len fits = absurd (omega arith)

again8 : (endian : Endian) (n : ℕ) → n < 2 ^ 8 → number_from endian w8 (number_bytes endian w8 n) ≡ n
unfolding number_bytes number_from
again8 Little n lt = omega arith
again8 Big n lt = omega arith

below8 : (endian : Endian) (bytes : List ℕ) → IsBytes bytes → number_from endian w8 bytes < 2 ^ 8
unfolding number_from
below8 Little bytes fits = omega (arith, fits 0)
below8 Big bytes fits = omega (arith, fits 0)

pub wide8 : IsWide w8 (2 ^ 8)
wide8 = record { len = len8; back = back8; again = again8; below = below8 }

abbrev numbered : ℕ × Spot → Result (ℕ × Spot) ValueFault
numbered x = Ok x

number_is : (x y : ℕ × Spot) → numbered x ≡ numbered y → x ≡ y
number_is x y e = cc

pub number_taken : (w : Width) (limit : ℕ) → IsWide w limit → (endian : Endian) (spot : Spot) (x : ℕ × Spot) → IsBytes spot.left → number_at endian w spot ≡ Ok x
    → Takes spot (aligned (byte_len w) spot.place (number_bytes endian w x.0)) x.1 × (x.0 < limit)
unfolding number_at
number_taken w limit wide endian spot x fits e =
    let a = bind_ok (padding_at (byte_len w) spot) (λ start. bytes_at (byte_len w) start >>= λ y. Ok (number_from endian w y.0, y.1)) x e in
    let b = bind_ok (bytes_at (byte_len w) a.0) (λ y. Ok (number_from endian w y.0, y.1)) x a.2 in
    let first = padding_taken (byte_len w) spot a.0 fits a.1 in
    let second = bytes_taken (byte_len w) a.0 b.0 first.fits b.1 in
    let whole : Takes a.0 (number_bytes endian w (number_from endian w b.0.0)) b.0.1 = subst (λ (bs : List ℕ). Takes a.0 bs b.0.1) (sym (wide.back endian b.0.0 second.1 second.2)) second.0 in
    let both = Takes-then spot (zeros (padding (byte_len w) spot.place)) a.0 (number_bytes endian w (number_from endian w b.0.0)) b.0.1 first whole in
    subst (λ (y : ℕ × Spot). Takes spot (aligned (byte_len w) spot.place (number_bytes endian w y.0)) y.1 × (y.0 < limit)) (number_is (number_from endian w b.0.0, b.0.1) x b.2)
    (both, wide.below endian b.0.0 second.2)
