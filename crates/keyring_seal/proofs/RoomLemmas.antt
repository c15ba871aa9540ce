-- The number of bytes of the parts of a file.
use Rattle.std.proofs.Common.{◌≡◌, ℕ, zero, suc, ◌+◌, ◌*◌, ◌≤◌, ◌<◌, List, [], ◌∷◌, ◌++◌, length, Bool, true, false, Option, Some, None, get_or, map, take, drop, refl, sym, ap, subst, ◌∙◌, arith}
use Rattle.std.specs.List.{flat_map, zip}
use Rattle.std.proofs.lemmas.List.{length-append, length-replicate, take_all, take_more}
use Rattle.std.proofs.lemmas.List.Concat.{flat_map-append}
use Rattle.std.proofs.lemmas.List.Folds.{length-flat_map-take}
use Rattle.std.specs.Prelude.{is_some, not}
use Rattle.hex.specs.Hex.{lower_digits}
use Rattle.hex.proofs.HexLemmas.{length-encode_with}
use Rattle.md5.specs.Md5.{md5}
use Rattle.md5.proofs.StandardFacts.{length-md5}
use Rattle.attribute_hash.specs.Hash.{text_hash}
use Rattle.keyring_text.specs.Fields.{number, time}
use Rattle.keyring_file.specs.Canonical.{list_text}
use Rattle.keyring_seal.specs.Room.{Takes}

pub length_number : (n : ℕ) → length (number n) ≡ 4
unfolding number
length_number n = refl

pub length_time : (n : ℕ) → length (time n) ≡ 8
unfolding time
length_time n = refl

-- the hash of a text has 32 digits
pub length_text_hash : (text : List ℕ) → length (text_hash text) ≡ 32
unfolding text_hash
length_text_hash text = let digits = length-encode_with lower_digits (md5 text) in let bytes = length-md5 text in omega (arith, digits, bytes)

pub ruleset sizes = (length_number, length_time, length_text_hash, length-append, length-replicate)

-- a list with its number
pub length_list_text : {X : Type 0} (f : X → List ℕ) (xs : List X) → length (list_text f xs) ≡ 4 + length (flat_map f xs)
length_list_text f xs = let count = length_number (length xs) in let sum = length-append (number (length xs)) (flat_map f xs) in omega (arith, count, sum)

-- ---- a loop that takes the bytes of one element after the other from the room

module _ {X : Type 0} (f : X → List ℕ) (xs : List X) (head room left i : ℕ) (x : X) where
  -- what was taken, and what is left
  abbrev pub Taken : Type 0
  Taken = left + (head + length (flat_map f (take i xs))) ≡ room

  pub taken_over : i < length xs → x ≡ get_or xs i x → Taken → left < length (f x) → room < head + length (flat_map f xs)
  taken_over lt e so_far over =
      let part = length-flat_map-take f xs i x lt in
      let same : length (f x) ≡ length (f (get_or xs i x)) = ap (λ y. length (f y)) e in
      omega (arith, part, same)

  pub taken_more : (next : ℕ) → i < length xs → x ≡ get_or xs i x → Taken → next + length (f x) ≡ left → next + (head + length (flat_map f (take (i + 1) xs))) ≡ room
  taken_more next lt e so_far less =
      let grown : flat_map f (take (i + 1) xs) ≡ flat_map f (take i xs) ++ (f (get_or xs i x) ++ []) = ap (λ (l : List X). flat_map f l) (take_more xs i x lt) ∙ flat_map-append f (take i xs) (get_or xs i x ∷ []) in
      let long = ap (λ (l : List ℕ). length l) grown in
      let sum = length-append (flat_map f (take i xs)) (f (get_or xs i x) ++ []) in
      let last = length-append (f (get_or xs i x)) [] in
      let same : length (f x) ≡ length (f (get_or xs i x)) = ap (λ y. length (f y)) e in
      omega (arith, long, sum, last, same)

pub taken_all : {X : Type 0} (f : X → List ℕ) (xs : List X) (head room left i : ℕ) → length xs ≤ i → left + (head + length (flat_map f (take i xs))) ≡ room → left + (head + length (flat_map f xs)) ≡ room
taken_all f xs head room left i le so_far = rw (take_all i xs le) at so_far

pub flat_map-map : {X Y : Type 0} (f : Y → List ℕ) (g : X → Y) (xs : List X) → flat_map f (map g xs) ≡ flat_map (λ x. f (g x)) xs
flat_map-map f g [] = refl
flat_map-map f g (x ∷ xs) = ap (λ (t : List ℕ). f (g x) ++ t) (flat_map-map f g xs)

module _ {A B : Type 0} where
  pub length-zip : (xs : List A) (ys : List B) → length ys ≡ length xs → length (zip xs ys) ≡ length xs
  length-zip [] ys e = refl
  length-zip (x ∷ xs) [] e = absurd (omega arith)
  length-zip (x ∷ xs) (y ∷ ys) e = let rest = length-zip xs ys (omega arith) in omega (arith, rest)

  pub get_or-zip : (xs : List A) (ys : List B) (i : ℕ) (x : A) (y : B) → length ys ≡ length xs → get_or (zip xs ys) i (x, y) ≡ (get_or xs i x, get_or ys i y)
  get_or-zip [] [] i x y e = refl
  get_or-zip [] (z ∷ ys) i x y e = absurd (omega arith)
  get_or-zip (w ∷ xs) [] i x y e = absurd (omega arith)
  get_or-zip (w ∷ xs) (z ∷ ys) zero x y e = refl
  get_or-zip (w ∷ xs) (z ∷ ys) (suc i) x y e = get_or-zip xs ys i x y (omega arith)

-- ---- whether there was room

pub taken_none : (room bytes : ℕ) (left : Option ℕ) (r : Bool) → is_some left ≡ not r → r ≡ true → Takes room bytes left → room < bytes
taken_none room bytes None r e t h = h
taken_none room bytes (Some left) true e t h = absurd cc
taken_none room bytes (Some left) false e t h = absurd cc

pub taken_some : (room bytes : ℕ) (left : Option ℕ) (r : Bool) → is_some left ≡ not r → r ≡ false → Takes room bytes left → bytes ≤ room
taken_some room bytes None true e t h = absurd cc
taken_some room bytes None false e t h = absurd cc
taken_some room bytes (Some left) r e t h = omega (arith, h)
