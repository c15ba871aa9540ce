-- A text and its pieces.
use Rattle.std.proofs.Common.{◌≡◌, ◌≢◌, ℕ, ◌==◌, ◌<◌, ◌+◌, suc, true, false, List, [], ◌∷◌, ◌++◌, length, refl, sym, ◌∙◌, ap, subst, ⊎_elim, arith}
use Rattle.std.specs.List.{All, AllByRecursion}
use Rattle.std.proofs.lemmas.Bool.Decides.{nat_tests}
use Rattle.std.proofs.lemmas.List.{length-append}
use Rattle.std.proofs.lemmas.List.Elements.{recursion_from_All, All-from_recursion}
use Rattle.std.proofs.lemmas.Bool.{cases_Bool}
use Rattle.bus_address.specs.Pieces.{IsCut, has_separator, before, after, with_byte, pieces, joined, IsJoined}

-- no byte is the separator
abbrev pub IsApart : ℕ → List ℕ → Type 0
IsApart separator text = All (λ byte. byte ≢ separator) text

abbrev Apart : ℕ → List ℕ → Type 0
Apart separator text = AllByRecursion (λ byte. byte ≢ separator) text

other : (byte separator : ℕ) → byte ≢ separator → (byte == separator) ≡ false
other byte separator differs = grind (arith, nat_tests)

itself : (separator : ℕ) → (separator == separator) ≡ true
itself separator = grind (arith, nat_tests)

-- ---- up to the first separator

pub pieces_front : (separator : ℕ) (front back : List ℕ) → Apart separator front → pieces separator (front ++ separator ∷ back) ≡ front ∷ pieces separator back
pieces_front separator [] back apart = rw (itself separator) refl
pieces_front separator (byte ∷ front) back (differs, apart) =
    rw (other byte separator differs) (ap (with_byte byte) (pieces_front separator front back apart))

before_front : (separator : ℕ) (front back : List ℕ) → Apart separator front → before separator (front ++ separator ∷ back) ≡ front
before_front separator [] back apart = rw (itself separator) refl
before_front separator (byte ∷ front) back (differs, apart) =
    rw (other byte separator differs) (ap (λ text. byte ∷ text) (before_front separator front back apart))

after_front : (separator : ℕ) (front back : List ℕ) → Apart separator front → after separator (front ++ separator ∷ back) ≡ back
after_front separator [] back apart = rw (itself separator) refl
after_front separator (byte ∷ front) back (differs, apart) = rw (other byte separator differs) (after_front separator front back apart)

has_front : (separator : ℕ) (front back : List ℕ) → Apart separator front → has_separator separator (front ++ separator ∷ back) ≡ true
has_front separator [] back apart = rw (itself separator) refl
has_front separator (byte ∷ front) back (differs, apart) = rw (other byte separator differs) (has_front separator front back apart)

pub pieces_cut : (separator : ℕ) (text front back : List ℕ) → IsCut separator text front back → pieces separator text ≡ front ∷ pieces separator back
pieces_cut separator text front back cut =
    ap (pieces separator) cut.spelled ∙ pieces_front separator front back (recursion_from_All (λ byte. byte ≢ separator) front cut.first)

pub before_cut : (separator : ℕ) (text front back : List ℕ) → IsCut separator text front back → before separator text ≡ front
before_cut separator text front back cut =
    ap (before separator) cut.spelled ∙ before_front separator front back (recursion_from_All (λ byte. byte ≢ separator) front cut.first)

pub after_cut : (separator : ℕ) (text front back : List ℕ) → IsCut separator text front back → after separator text ≡ back
after_cut separator text front back cut =
    ap (after separator) cut.spelled ∙ after_front separator front back (recursion_from_All (λ byte. byte ≢ separator) front cut.first)

pub has_cut : (separator : ℕ) (text front back : List ℕ) → IsCut separator text front back → has_separator separator text ≡ true
has_cut separator text front back cut =
    ap (has_separator separator) cut.spelled ∙ has_front separator front back (recursion_from_All (λ byte. byte ≢ separator) front cut.first)

-- what is left is shorter
pub cut_shorter : (separator : ℕ) (text front back : List ℕ) → IsCut separator text front back → length back < length text
cut_shorter separator text front back cut =
    let long : length text ≡ length front + suc (length back) = ap length cut.spelled ∙ length-append front (separator ∷ back) in
    omega (arith, long)

-- ---- without a separator

whole : (separator : ℕ) (text : List ℕ) → Apart separator text → pieces separator text ≡ text ∷ []
whole separator [] apart = refl
whole separator (byte ∷ text) (differs, apart) = rw (other byte separator differs) (ap (with_byte byte) (whole separator text apart))

before_whole : (separator : ℕ) (text : List ℕ) → Apart separator text → before separator text ≡ text
before_whole separator [] apart = refl
before_whole separator (byte ∷ text) (differs, apart) = rw (other byte separator differs) (ap (λ rest. byte ∷ rest) (before_whole separator text apart))

after_whole : (separator : ℕ) (text : List ℕ) → Apart separator text → after separator text ≡ []
after_whole separator [] apart = refl
after_whole separator (byte ∷ text) (differs, apart) = rw (other byte separator differs) (after_whole separator text apart)

has_whole : (separator : ℕ) (text : List ℕ) → Apart separator text → has_separator separator text ≡ false
has_whole separator [] apart = refl
has_whole separator (byte ∷ text) (differs, apart) = rw (other byte separator differs) (has_whole separator text apart)

pub pieces_none : (separator : ℕ) (text : List ℕ) → IsApart separator text → pieces separator text ≡ text ∷ []
pieces_none separator text apart = whole separator text (recursion_from_All (λ byte. byte ≢ separator) text apart)

pub before_none : (separator : ℕ) (text : List ℕ) → IsApart separator text → before separator text ≡ text
before_none separator text apart = before_whole separator text (recursion_from_All (λ byte. byte ≢ separator) text apart)

pub after_none : (separator : ℕ) (text : List ℕ) → IsApart separator text → after separator text ≡ []
after_none separator text apart = after_whole separator text (recursion_from_All (λ byte. byte ≢ separator) text apart)

pub has_none : (separator : ℕ) (text : List ℕ) → IsApart separator text → has_separator separator text ≡ false
has_none separator text apart = has_whole separator text (recursion_from_All (λ byte. byte ≢ separator) text apart)

-- ---- the pieces are those that are joined

pieces_joined : (separator : ℕ) (first : List ℕ) (more : List (List ℕ)) → Apart separator first → AllByRecursion (Apart separator) more
    → pieces separator (joined separator first more) ≡ first ∷ more
pieces_joined separator first [] apart all = whole separator first apart
pieces_joined separator first (next ∷ more) apart (one, all) =
    pieces_front separator first (joined separator next more) apart ∙ ap (λ rest. first ∷ rest) (pieces_joined separator next more one all)

abbrev all_joined : ℕ → List (List ℕ) → List ℕ
all_joined separator [] = []
all_joined separator (first ∷ more) = joined separator first more

with_some : (byte : ℕ) (list : List (List ℕ)) → with_byte byte list ≡ [] → ⊥
with_some byte [] none = cc
with_some byte (piece ∷ list) none = cc

some_pieces : (separator : ℕ) (text : List ℕ) → pieces separator text ≡ [] → ⊥
some_pieces separator [] none = cc
some_pieces separator (byte ∷ text) none =
    ⊎_elim
    (λ same. (let wrong : [] ∷ pieces separator text ≡ [] = rw same at none in cc))
    (λ off. (let wrong : with_byte byte (pieces separator text) ≡ [] = rw off at none in with_some byte (pieces separator text) wrong))
    (cases_Bool (byte == separator))

joined_after : (separator : ℕ) (list : List (List ℕ)) → (list ≡ [] → ⊥) → all_joined separator ([] ∷ list) ≡ separator ∷ all_joined separator list
joined_after separator [] some = absurd (some refl)
joined_after separator (piece ∷ list) some = refl

joined_byte : (separator byte : ℕ) (list : List (List ℕ)) → all_joined separator (with_byte byte list) ≡ byte ∷ all_joined separator list
joined_byte separator byte [] = refl
joined_byte separator byte (piece ∷ []) = refl
joined_byte separator byte (piece ∷ next ∷ list) = refl

is_same : (byte separator : ℕ) → (byte == separator) ≡ true → byte ≡ separator
is_same byte separator same = grind (arith, nat_tests)

is_other : (byte separator : ℕ) → (byte == separator) ≡ false → byte ≢ separator
is_other byte separator off = grind (arith, nat_tests)

joined_pieces : (separator : ℕ) (text : List ℕ) → all_joined separator (pieces separator text) ≡ text
joined_pieces separator [] = refl
joined_pieces separator (byte ∷ text) =
    ⊎_elim
    (λ same. rw same (joined_after separator (pieces separator text) (some_pieces separator text) ∙ (λ i. sym (is_same byte separator same) i ∷ joined_pieces separator text i)))
    (λ off. rw off (joined_byte separator byte (pieces separator text) ∙ ap (λ rest. byte ∷ rest) (joined_pieces separator text)))
    (cases_Bool (byte == separator))

with_apart : (separator byte : ℕ) (list : List (List ℕ)) → byte ≢ separator → AllByRecursion (Apart separator) list → AllByRecursion (Apart separator) (with_byte byte list)
with_apart separator byte [] differs all = ((differs, tt), tt)
with_apart separator byte (piece ∷ list) differs (one, all) = ((differs, one), all)

pieces_apart : (separator : ℕ) (text : List ℕ) → AllByRecursion (Apart separator) (pieces separator text)
pieces_apart separator [] = (tt, tt)
pieces_apart separator (byte ∷ text) =
    ⊎_elim
    (λ same. rw same (tt, pieces_apart separator text))
    (λ off. rw off (with_apart separator byte (pieces separator text) (is_other byte separator off) (pieces_apart separator text)))
    (cases_Bool (byte == separator))

by_byte : (separator : ℕ) (list : List (List ℕ)) → AllByRecursion (IsApart separator) list → AllByRecursion (Apart separator) list
by_byte separator [] all = tt
by_byte separator (piece ∷ list) (one, all) = (recursion_from_All (λ byte. byte ≢ separator) piece one, by_byte separator list all)

whole_pieces : (separator : ℕ) (list : List (List ℕ)) → AllByRecursion (Apart separator) list → AllByRecursion (IsApart separator) list
whole_pieces separator [] all = tt
whole_pieces separator (piece ∷ list) (one, all) = (All-from_recursion (λ byte. byte ≢ separator) piece one, whole_pieces separator list all)

pub from_joined : (separator : ℕ) (text first : List ℕ) (more : List (List ℕ)) → IsJoined separator text first more → pieces separator text ≡ first ∷ more
from_joined separator text first more is =
    ap (pieces separator) is.spelled
    ∙ pieces_joined separator first more (recursion_from_All (λ byte. byte ≢ separator) first is.first_apart)
    (by_byte separator more (recursion_from_All (IsApart separator) more is.apart))

pub to_joined : (separator : ℕ) (text first : List ℕ) (more : List (List ℕ)) → pieces separator text ≡ first ∷ more → IsJoined separator text first more
to_joined separator text first more are =
    let spelled : all_joined separator (first ∷ more) ≡ text = ap (all_joined separator) (sym are) ∙ joined_pieces separator text in
    let all : AllByRecursion (Apart separator) (first ∷ more) = subst (AllByRecursion (Apart separator)) are (pieces_apart separator text) in
    record {
      spelled = sym spelled;
      first_apart = All-from_recursion (λ byte. byte ≢ separator) first all.0;
      apart = All-from_recursion (IsApart separator) more (whole_pieces separator more all.1);
    }
