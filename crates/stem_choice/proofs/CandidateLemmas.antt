-- The candidates of a label: each is a stem, and no two of them are the same.
use Rattle.std.proofs.Common.{◌≡◌, ◌≤◌, ℕ, zero, suc, ◌+◌, ◌<◌, ◌^◌, ◌/◌, ◌%◌, ◌==◌, ◌||◌, ⊎_elim, true, false, List, [], ◌∷◌, ◌++◌, length, get_or, map, take, decimal, refl, sym, ◌∙◌, ap, subst, arith, length-append, length-take}
use Rattle.std.specs.Char.{is_ascii_alphanumeric}
use Rattle.std.specs.Fmt.{digit_glyph, digits, digits_onto}
use Rattle.std.specs.List.{AllByRecursion, All, IsDistinct}
use Rattle.std.proofs.lemmas.Bool.{cases_Bool}
use Rattle.std.proofs.lemmas.Bool.Decides.{nat_tests}
use Rattle.std.proofs.lemmas.Fmt.{decimal_injective}
use Rattle.std.proofs.lemmas.List.{append_cancel_left, length-map, take-map}
use Rattle.std.proofs.lemmas.List.Elements.{All-contains, All-from_recursion}
use Rattle.std.proofs.lemmas.Map.Made.{length-le_from_is_member}
use Rattle.std.proofs.lemmas.Cmp.{eq_by_cmp_equiv}
use Rattle.std.specs.Cmp.Lexicographic.{nat_list_cmp_total}
use Rattle.std.proofs.lemmas.Str.{IsUtf8-from_ascii}
use Rattle.std.proofs.lemmas.Str.Ascii.{IsAscii-from_all}
use Rattle.kr_base.specs.Attributes.{is_name}
use Rattle.kr_base.specs.Stem.{IsStem}
use Rattle.kr_base.specs.Text.{IsText}
use Rattle.stem_choice.specs.Choice.{base_of, label_limit, numbered, or_keyring, stem_byte}
use Rattle.stem_choice.specs.UsedStems.{is_used}
use Rattle.stem_choice.proofs.UsedLemmas.{is_name-decides}

-- ---- the bytes of a label

some_bytes : (bytes : List ℕ) → 0 < length bytes → or_keyring bytes ≡ bytes
some_bytes [] some = absurd (omega arith)
some_bytes (byte ∷ bytes) some = refl

pub base_long : (label : List ℕ) → 64 < length label → map stem_byte (take 64 label) ≡ base_of label
base_long label long =
    let some : 0 < length (take 64 (map stem_byte label)) = omega (arith, length-take 64 (map stem_byte label), length-map label stem_byte) in
    sym (some_bytes (take 64 (map stem_byte label)) some ∙ take-map stem_byte 64 label)

pub base_short : (label : List ℕ) → 0 < length label → length label ≤ 64 → map stem_byte label ≡ base_of label
base_short label some short =
    let whole : take 64 (map stem_byte label) ≡ map stem_byte label = take_whole (map stem_byte label) 64 (omega (arith, length-map label stem_byte)) in
    sym (ap or_keyring whole ∙ some_bytes (map stem_byte label) (omega (arith, length-map label stem_byte)))
  where
    take_whole : (xs : List ℕ) (n : ℕ) → length xs ≤ n → take n xs ≡ xs
    take_whole [] zero le = refl
    take_whole [] (suc n) le = refl
    take_whole (x ∷ xs) zero le = absurd (omega (arith, le))
    take_whole (x ∷ xs) (suc n) le = ap (λ t. x ∷ t) (take_whole xs n (omega (arith, le)))

-- ---- a candidate is made of letters, digits and `_`

abbrev IsNameByte : ℕ → Type 0
IsNameByte byte = (is_ascii_alphanumeric byte || (byte == 95)) ≡ true

abbrev AreNameBytes : List ℕ → Type 0
AreNameBytes bytes = AllByRecursion IsNameByte bytes

stem_byte-is : (byte : ℕ) → IsNameByte (stem_byte byte)
stem_byte-is byte = ⊎_elim
    (λ plain. rw plain (rw plain refl))
    (λ other. rw other refl)
    (cases_Bool (is_ascii_alphanumeric byte))

mapped : (label : List ℕ) → AreNameBytes (map stem_byte label)
mapped [] = tt
mapped (byte ∷ label) = (stem_byte-is byte, mapped label)

taken : (n : ℕ) (bytes : List ℕ) → AreNameBytes bytes → AreNameBytes (take n bytes)
taken zero bytes all = tt
taken (suc n) [] all = tt
taken (suc n) (byte ∷ bytes) (is, all) = (is, taken n bytes all)

or_keyring-are : (bytes : List ℕ) → AreNameBytes bytes → AreNameBytes (or_keyring bytes)
or_keyring-are [] all = (refl, (refl, (refl, (refl, (refl, (refl, (refl, tt)))))))
or_keyring-are (byte ∷ bytes) all = all

base-are : (label : List ℕ) → AreNameBytes (base_of label)
base-are label = or_keyring-are (take label_limit (map stem_byte label)) (taken label_limit (map stem_byte label) (mapped label))

appended : (xs ys : List ℕ) → AreNameBytes xs → AreNameBytes ys → AreNameBytes (xs ++ ys)
appended [] ys all also = also
appended (x ∷ xs) ys (is, all) also = (is, appended xs ys all also)

digit_is : (n : ℕ) → n < 10 → IsNameByte (digit_glyph false n)
digit_is n small = let digit : (n < 10) = small in grind (arith, nat_tests)

digits-are : (k n : ℕ) (after : List ℕ) → AreNameBytes after → AreNameBytes (digits_onto k 10 false n after)
digits-are zero n after all = all
digits-are (suc k) n after all = ⊎_elim
    (λ last. rw last (digit_is (n % 10) (omega arith), all))
    (λ more. rw more (digits-are k (n / 10) (digit_glyph false (n % 10) ∷ after) (digit_is (n % 10) (omega arith), all)))
    (cases_Bool (n / 10 == 0))

decimal-are : (n : ℕ) → AreNameBytes (decimal n)
unfolding digits
decimal-are n = digits-are 64 n [] tt

numbered-are : (base : List ℕ) (number : ℕ) → AreNameBytes base → AreNameBytes (numbered base number)
numbered-are base number all = ⊎_elim
    (λ one. rw one all)
    (λ more. rw more (appended base (95 ∷ decimal number) all (refl, decimal-are number)))
    (cases_Bool (number == 1))

-- ---- so it is a stem

small : (byte : ℕ) → IsNameByte byte → byte < 128
small byte is = grind (arith, nat_tests)

text_of_name_bytes : (bytes : List ℕ) → All IsNameByte bytes → IsText bytes
text_of_name_bytes bytes all = record {
  utf8 = IsUtf8-from_ascii bytes (IsAscii-from_all bytes (λ k d lt. small (get_or bytes k d) (all k d lt)));
  no_zero = λ zero. (let test : false ≡ true = All-contains IsNameByte bytes 0 all zero in cc);
}

base-some : (bytes : List ℕ) → 0 < length (or_keyring bytes)
base-some [] = omega arith
base-some (byte ∷ bytes) = omega arith

base-short : (bytes : List ℕ) → length bytes ≤ 64 → length (or_keyring bytes) ≤ 64
base-short [] short = omega arith
base-short (byte ∷ bytes) short = short

numbered-some : (base : List ℕ) (number : ℕ) → 0 < length base → 0 < length (numbered base number)
numbered-some base number some = ⊎_elim
    (λ one. rw one some)
    (λ more. rw more (omega (arith, length-append base (95 ∷ decimal number))))
    (cases_Bool (number == 1))

digits-short : (k n : ℕ) (after : List ℕ) → length (digits_onto k 10 false n after) ≤ k + length after
digits-short zero n after = omega arith
digits-short (suc k) n after = ⊎_elim
    (λ last. rw last (omega arith))
    (λ more. rw more (let rest = digits-short k (n / 10) (digit_glyph false (n % 10) ∷ after) in omega (arith, rest)))
    (cases_Bool (n / 10 == 0))

decimal-short : (n : ℕ) → length (decimal n) ≤ 64
unfolding digits
decimal-short n = digits-short 64 n []

numbered-short : (base : List ℕ) (number : ℕ) → length base ≤ 64 → length (numbered base number) ≤ 243
numbered-short base number short = ⊎_elim
    (λ one. rw one (omega arith))
    (λ more. rw more (omega (arith, length-append base (95 ∷ decimal number), decimal-short number)))
    (cases_Bool (number == 1))

pub IsStem-numbered : (label : List ℕ) (number : ℕ) → IsStem (numbered (base_of label) number)
IsStem-numbered label number =
    let cut = take label_limit (map stem_byte label) in
    let are : AreNameBytes (numbered (base_of label) number) = numbered-are (base_of label) number (base-are label) in
    let all : All IsNameByte (numbered (base_of label) number) = All-from_recursion IsNameByte (numbered (base_of label) number) are in
    record {
      text = text_of_name_bytes (numbered (base_of label) number) all;
      some = numbered-some (base_of label) number (base-some cut);
      fits = numbered-short (base_of label) number (base-short cut (omega (arith, length-take 64 (map stem_byte label))));
      no_slash = λ slash. (let test : false ≡ true = All-contains IsNameByte (numbered (base_of label) number) 47 all slash in cc);
    }

-- ---- no two candidates are the same

one_number : (base : List ℕ) (m n : ℕ) → m < 2 ^ 64 → n < 2 ^ 64 → base ++ 95 ∷ decimal m ≡ base ++ 95 ∷ decimal n → m ≡ n
one_number base m n fits also same =
    let tails : 95 ∷ decimal m ≡ 95 ∷ decimal n = append_cancel_left base (95 ∷ decimal m) (95 ∷ decimal n) same in
    let digits : decimal m ≡ decimal n = ap (λ l. drop_first l) tails in
    decimal_injective m n fits also digits
  where
    drop_first : List ℕ → List ℕ
    drop_first [] = []
    drop_first (x ∷ xs) = xs

apart : (base : List ℕ) (m n : ℕ) → 1 ≤ m → m < n → n < 2 ^ 64 → numbered base m ≡ numbered base n → ⊥
apart base m n from below fits same =
    let later : (n == 1) ≡ false = grind (arith, nat_tests) in
    let numbers : numbered base m ≡ base ++ 95 ∷ decimal n = rw later at same in
    ⊎_elim
    (λ one.
    let first : base ≡ base ++ 95 ∷ decimal n = rw one at numbers in
    omega (arith, ap length first, length-append base (95 ∷ decimal n)))
    (λ more.
    let both : base ++ 95 ∷ decimal m ≡ base ++ 95 ∷ decimal n = rw more at numbers in
    omega (arith, one_number base m n (omega arith) fits both))
    (cases_Bool (m == 1))

different : (a b : List ℕ) → (b ≡ a → ⊥) → is_name a b ≡ false
different a b differ = ⊎_elim (λ same. absurd (differ (sym ((is_name-decides a b).0 same)))) (λ other. other) (cases_Bool (is_name a b))

-- ---- so as many used candidates are as many used stems

abbrev candidates : List ℕ → ℕ → List (List ℕ)
candidates base zero = []
candidates base (suc n) = numbered base (suc n) ∷ candidates base n

length-candidates : (base : List ℕ) (n : ℕ) → length (candidates base n) ≡ n
length-candidates base zero = refl
length-candidates base (suc n) = ap suc (length-candidates base n)

all_apart : (base : List ℕ) (n m : ℕ) → m < n → n < 2 ^ 64 → AllByRecursion (λ other. is_name (numbered base n) other ≡ false) (candidates base m)
all_apart base n zero below fits = tt
all_apart base n (suc m) below fits =
    (different (numbered base n) (numbered base (suc m)) (apart base (suc m) n (omega arith) below fits), all_apart base n m (omega (arith, below)) fits)

distinct : (base : List ℕ) (n : ℕ) → n < 2 ^ 64 → IsDistinct is_name (candidates base n)
unfolding IsDistinct
distinct base zero fits = tt
distinct base (suc n) fits = (all_apart base (suc n) n (omega arith) fits, distinct base n (omega (arith, fits)))

-- each candidate below a number is used
abbrev pub AreUsed : List ℕ → List (List ℕ) → ℕ → Type 0
AreUsed base used number = (before : ℕ) → 1 ≤ before → before < number → is_used (numbered base before) used ≡ true

each_used : (base : List ℕ) (used : List (List ℕ)) (n : ℕ) → AreUsed base used (n + 1) → (q : List ℕ) → is_used q (candidates base n) ≡ true → is_used q used ≡ true
each_used base used zero all q is = absurd cc
each_used base used (suc n) all q is = ⊎_elim
    (λ same. subst (λ s. is_used s used ≡ true) (sym ((is_name-decides q (numbered base (suc n))).0 same)) (all (suc n) (omega arith) (omega arith)))
    (λ other.
    let later : is_used q (candidates base n) ≡ true = rw other at is in
    each_used base used n (λ before from below. all before from (omega (arith, below))) q later)
    (cases_Bool (is_name q (numbered base (suc n))))

pub few_used : (base : List ℕ) (used : List (List ℕ)) (n : ℕ) → n < 2 ^ 64 → AreUsed base used (n + 1) → n ≤ length used
few_used base used n fits all =
    let count = length-le_from_is_member (eq_by_cmp_equiv nat_list_cmp_total) (candidates base n) used (distinct base n fits) (each_used base used n all) in
    omega (arith, count, length-candidates base n)
