-- What is written of aliases is read as these aliases, and bytes give only one list.
use Rattle.std.proofs.Common.{◌≡◌, ◌≢◌, ℕ, ◌≤◌, ◌*◌, ◌⊎◌, inl, inr, ⊎_elim, Bool, true, false, cond, List, [], ◌∷◌, ◌++◌, length, map, Option, None, Some, refl, sym, ◌∙◌, ap, subst, arith}
use Rattle.std.specs.Char.{is_ascii_alphanumeric}
use Rattle.std.specs.Cmp.Lexicographic.{slice_cmp, nat_list_cmp_total}
use Rattle.std.specs.List.{All, AllByRecursion}
use Rattle.std.specs.Map.{keys_of}
use Rattle.std.specs.Option.{option_or}
use Rattle.std.specs.Ordering.{nat_cmp, is_eq}
use Rattle.std.proofs.lemmas.Bool.{cases_Bool}
use Rattle.std.proofs.lemmas.Cmp.{eq_by_cmp_equiv, tied_itself}
use Rattle.std.proofs.lemmas.List.{append_assoc, append-nil, length-append}
use Rattle.std.proofs.lemmas.List.Elements.{All-nil, All-push, All-from_recursion, recursion_from_All}
use Rattle.std.proofs.lemmas.Map.{lookup-none}
use Rattle.std.proofs.lemmas.Map.Entries.{none_past_head, lookup_head, lookup_tail}
use Rattle.std.proofs.lemmas.Map.Lookups.{exact_bytes}
use Rattle.std.proofs.lemmas.Map.Keys.{IsDistinct-from_sorted, sorted_tail}
use Rattle.kr_base.specs.Attributes.{is_name, IsInOrder, value_at, last_value, Gathers}
use Rattle.kr_base.specs.Stem.{IsStem}
use Rattle.kr_base.proofs.AttributeLemmas.{one_gathered, IsInOrder-nil}
use Rattle.kr_base.proofs.OrderedLemmas.{is_equal, Gathers-itself}
use Rattle.kr_names.specs.Escape.{escape, escaped}
use Rattle.kr_names.specs.Path.{IsAliasName}
use Rattle.alias_text.specs.Line.{IsPair}
use Rattle.alias_text.specs.Pairs.{ended, IsOneLine, HasLines, Gives, nothing, skipped, given, LinesGive, longest, AliasesOf, too_long, read}
use Rattle.alias_text.specs.Writing.{AreAliases, line_of, most_aliases, text_of}
use Rattle.alias_text.proofs.LineLemmas.{one_cut, one_pair, line_is_pair, line_is_one}

abbrev Pairs : Type 0
Pairs = List (List ℕ × List ℕ)

-- the name is a name of an alias, and the stem is a stem
abbrev IsAlias : List ℕ × List ℕ → Type 0
IsAlias alias = IsAliasName alias.0 × IsStem alias.1

-- ---- what is written is read

text_lines : (aliases : Pairs) → text_of aliases ≡ ended (map line_of aliases)
unfolding text_of
text_lines [] = refl
text_lines (alias ∷ aliases) = ap (λ l. (line_of alias ++ 10 ∷ []) ++ l) (text_lines aliases)

lines_apart : (aliases : Pairs) → AllByRecursion IsAlias aliases → AllByRecursion IsOneLine (map line_of aliases)
lines_apart [] all = tt
lines_apart (alias ∷ aliases) (is, all) = (line_is_one alias is.0 is.1, lines_apart aliases all)

lines_give : (lines : List (List ℕ)) (pairs aliases : Pairs) → Gives lines pairs → AllByRecursion IsAlias aliases → Gives (lines ++ map line_of aliases) (pairs ++ aliases)
lines_give lines pairs [] gives all = rw (append-nil lines, append-nil pairs) gives
lines_give lines pairs (alias ∷ aliases) gives (is, all) =
    let one : Gives (lines ++ line_of alias ∷ []) (pairs ++ alias ∷ []) = given lines pairs (line_of alias) alias.0 alias.1 gives (line_is_pair alias is.0 is.1) in
    let more : Gives ((lines ++ line_of alias ∷ []) ++ map line_of aliases) ((pairs ++ alias ∷ []) ++ aliases) = lines_give (lines ++ line_of alias ∷ []) (pairs ++ alias ∷ []) aliases one all in
    rw (append_assoc lines (line_of alias ∷ []) (map line_of aliases), append_assoc pairs (alias ∷ []) aliases) at more

pub written_is_read : (aliases : Pairs) → AreAliases aliases → length (text_of aliases) ≤ longest → AliasesOf (text_of aliases) aliases
written_is_read aliases are fits =
    let all : AllByRecursion IsAlias aliases = recursion_from_All IsAlias aliases are.each in
    read (text_of aliases) aliases fits (record {
      lines = map line_of aliases;
      pairs = aliases;
      cut = record {
        rest = [];
        spelled = text_lines aliases ∙ sym (append-nil (ended (map line_of aliases)));
        apart = All-from_recursion IsOneLine (map line_of aliases) (lines_apart aliases all);
        unended = All-nil (λ byte. byte ≢ 10);
      };
      given = lines_give [] [] aliases nothing all;
      gathered = Gathers-itself aliases are.ordered;
    })

-- ---- bytes give one list

-- the same as `Gives`, from the first line on
abbrev From : List (List ℕ) → Pairs → Type 0
From [] pairs = pairs ≡ []
From (line ∷ lines) pairs =
    (((name stem : List ℕ) → ¬ (IsPair line name stem)) × From lines pairs)
    ⊎ ((name : List ℕ) × (stem : List ℕ) × (more : Pairs) × IsPair line name stem × (pairs ≡ (name, stem) ∷ more) × From lines more)

from_skipped : (lines : List (List ℕ)) (pairs : Pairs) (line : List ℕ) → ((name stem : List ℕ) → ¬ (IsPair line name stem)) → From lines pairs → From (lines ++ line ∷ []) pairs
from_skipped [] pairs line lacks from = inl (lacks, from)
from_skipped (first ∷ lines) pairs line lacks (inl (none, from)) = inl (none, from_skipped lines pairs line lacks from)
from_skipped (first ∷ lines) pairs line lacks (inr (name, stem, more, is, same, from)) = inr (name, stem, more, is, same, from_skipped lines more line lacks from)

from_given : (lines : List (List ℕ)) (pairs : Pairs) (line name stem : List ℕ) → IsPair line name stem → From lines pairs → From (lines ++ line ∷ []) (pairs ++ (name, stem) ∷ [])
from_given [] pairs line name stem is from = inr (name, stem, [], is, ap (λ p. p ++ (name, stem) ∷ []) from, refl)
from_given (first ∷ lines) pairs line name stem is (inl (none, from)) = inl (none, from_given lines pairs line name stem is from)
from_given (first ∷ lines) pairs line name stem is (inr (other, also, more, gives, same, from)) =
    inr (other, also, more ++ (name, stem) ∷ [], gives, ap (λ p. p ++ (name, stem) ∷ []) same, from_given lines more line name stem is from)

from_gives : (lines : List (List ℕ)) (pairs : Pairs) → Gives lines pairs → From lines pairs
from_gives _ _ nothing = refl
from_gives _ _ (skipped lines pairs line gives lacks) = from_skipped lines pairs line lacks (from_gives lines pairs gives)
from_gives _ _ (given lines pairs line name stem gives is) = from_given lines pairs line name stem is (from_gives lines pairs gives)

one_from : (lines : List (List ℕ)) (one other : Pairs) → From lines one → From lines other → one ≡ other
one_from [] one other p q = p ∙ sym q
one_from (line ∷ lines) one other (inl (none, p)) (inl (none_also, q)) = one_from lines one other p q
one_from (line ∷ lines) one other (inl (none, p)) (inr (name, stem, more, is, same, q)) = absurd (none name stem is)
one_from (line ∷ lines) one other (inr (name, stem, more, is, same, p)) (inl (none, q)) = absurd (none name stem is)
one_from (line ∷ lines) one other (inr (name, stem, more, is, same, p)) (inr (name_also, stem_also, also, is_also, same_also, q)) =
    let pair : (name ≡ name_also) × (stem ≡ stem_also) = one_pair line name stem name_also stem_also is is_also in
    let rest : more ≡ also = one_from lines more also p q in
    same ∙ (λ i. (pair.0 i, pair.1 i) ∷ rest i) ∙ sym same_also

-- bytes are cut into lines in only one way
ended_rest : (line : List ℕ) (lines : List (List ℕ)) (rest : List ℕ) → ended (line ∷ lines) ++ rest ≡ line ++ 10 ∷ (ended lines ++ rest)
ended_rest line lines rest = append_assoc (line ++ 10 ∷ []) (ended lines) rest ∙ append_assoc line (10 ∷ []) (ended lines ++ rest)

no_end : (line rest bytes : List ℕ) → AllByRecursion (λ byte. byte ≢ 10) bytes → bytes ≡ line ++ 10 ∷ rest → ⊥
no_end [] rest [] all same = cc
no_end [] rest (b ∷ bytes) (first, all) same = first cc
no_end (x ∷ line) rest [] all same = cc
no_end (x ∷ line) rest (b ∷ bytes) (first, all) same = no_end line rest bytes all cc

-- what a line of the recursive form says, byte by byte
abbrev On : List ℕ → Type 0
On = AllByRecursion (λ byte. byte ≢ 10)

one_cutting : (lines others : List (List ℕ)) (rest behind : List ℕ) → AllByRecursion On lines → AllByRecursion On others → On rest → On behind
    → ended lines ++ rest ≡ ended others ++ behind → lines ≡ others
one_cutting [] [] rest behind all also on on_also same = refl
one_cutting [] (other ∷ others) rest behind all also on on_also same = absurd (no_end other (ended others ++ behind) rest on (same ∙ ended_rest other others behind))
one_cutting (line ∷ lines) [] rest behind all also on on_also same = absurd (no_end line (ended lines ++ rest) behind on_also (sym same ∙ ended_rest line lines rest))
one_cutting (line ∷ lines) (other ∷ others) rest behind (first, all) (second, also) on on_also same =
    let cut : (line ≡ other) × (ended lines ++ rest ≡ ended others ++ behind) =
    one_cut 10 line (ended lines ++ rest) other (ended others ++ behind) first second (sym (ended_rest line lines rest) ∙ same ∙ ended_rest other others behind) in
    let more : lines ≡ others = one_cutting lines others rest behind all also on on_also cut.1 in
    (λ i. cut.0 i ∷ more i)

byte_by_byte : (lines : List (List ℕ)) → AllByRecursion IsOneLine lines → AllByRecursion On lines
byte_by_byte [] all = tt
byte_by_byte (line ∷ lines) (is, all) = (recursion_from_All (λ byte. byte ≢ 10) line is, byte_by_byte lines all)

one_lines : (bytes : List ℕ) (lines others : List (List ℕ)) → HasLines bytes lines → HasLines bytes others → lines ≡ others
one_lines bytes lines others one other =
    one_cutting lines others one.rest other.rest
    (byte_by_byte lines (recursion_from_All IsOneLine lines one.apart)) (byte_by_byte others (recursion_from_All IsOneLine others other.apart))
    (recursion_from_All (λ byte. byte ≢ 10) one.rest one.unended) (recursion_from_All (λ byte. byte ≢ 10) other.rest other.unended)
    (sym one.spelled ∙ other.spelled)

one_given : (bytes : List ℕ) (one other : Pairs) → LinesGive bytes one → LinesGive bytes other → one ≡ other
one_given bytes one other p q =
    let lines : p.lines ≡ q.lines = one_lines bytes p.lines q.lines p.cut q.cut in
    let pairs : p.pairs ≡ q.pairs = one_from p.lines p.pairs q.pairs (from_gives p.lines p.pairs p.given) (subst (λ l. From l q.pairs) (sym lines) (from_gives q.lines q.pairs q.given)) in
    one_gathered q.pairs one other (subst (λ l. Gathers l one) pairs p.gathered) q.gathered

pub one_reading : (bytes : List ℕ) (one other : Pairs) → AliasesOf bytes one → AliasesOf bytes other → one ≡ other
one_reading _ _ _ (too_long bytes long) (too_long same also) = refl
one_reading _ _ other (too_long bytes long) (read same pairs fits gives) = absurd (omega (arith, long, fits))
one_reading _ one _ (read bytes pairs fits gives) (too_long same long) = absurd (omega (arith, long, fits))
one_reading _ _ _ (read bytes one fits gives) (read same other fits_also gives_also) = one_given bytes one other gives gives_also

-- ---- what is read can be written

all_given : (lines : List (List ℕ)) (pairs : Pairs) → Gives lines pairs → All IsAlias pairs
all_given _ _ nothing = All-nil IsAlias
all_given _ _ (skipped lines pairs line gives lacks) = all_given lines pairs gives
all_given _ _ (given lines pairs line name stem gives is) = All-push IsAlias pairs (name, stem) (all_given lines pairs gives) (is.alias, is.is_stem)

is_same : (one other : List ℕ) → is_name one other ≡ true → one ≡ other
is_same one other e = exact_bytes one other (is_equal (slice_cmp nat_cmp one other) e)

is_itself : (name : List ℕ) → is_name name name ≡ true
is_itself name = ap is_eq (tied_itself nat_list_cmp_total name)

-- each value is the value of some pair
of_cases : (pair : List ℕ × List ℕ) (pairs : Pairs) (name stem : List ℕ) → IsAlias pair → (last_value name pairs ≡ Some stem → IsAlias (name, stem))
    → (last : Option (List ℕ)) (here : Bool) → last_value name pairs ≡ last → is_name pair.0 name ≡ here → option_or last (cond here (Some pair.1) None) ≡ Some stem → IsAlias (name, stem)
of_cases pair pairs name stem is more (Some other) here one same found = more (one ∙ found)
of_cases pair pairs name stem is more None true one same found =
    let stems : pair.1 ≡ stem = cc in
    subst IsAlias (λ i. (is_same pair.0 name same i, stems i)) is
of_cases pair pairs name stem is more None false one same found = absurd cc

last_found : (pairs : Pairs) (name stem : List ℕ) → AllByRecursion IsAlias pairs → last_value name pairs ≡ Some stem → IsAlias (name, stem)
last_found [] name stem all at = absurd cc
last_found (pair ∷ pairs) name stem (is, all) at = of_cases pair pairs name stem is (λ one. last_found pairs name stem all one) (last_value name pairs) (is_name pair.0 name) refl refl at

all_found : (aliases : Pairs) → IsInOrder aliases → ((name stem : List ℕ) → value_at name aliases ≡ Some stem → IsAlias (name, stem)) → AllByRecursion IsAlias aliases
all_found [] ordered has = tt
all_found (alias ∷ aliases) ordered has = (
  has alias.0 alias.1 (lookup_head (is_name alias.0) alias aliases (is_itself alias.0)),
  all_found aliases (sorted_tail (slice_cmp nat_cmp) alias.0 (keys_of aliases) ordered)
      (λ name stem at. has name stem (⊎_elim
      (λ same.
      let none : value_at name aliases ≡ None = lookup-none (is_name name) aliases (none_past_head (eq_by_cmp_equiv nat_list_cmp_total) name alias aliases (IsDistinct-from_sorted (slice_cmp nat_cmp) (keys_of (alias ∷ aliases)) ordered) same) in
      absurd (let wrong : None ≡ Some stem = sym none ∙ at in cc))
      (λ off. lookup_tail (is_name name) alias aliases off ∙ at)
      (cases_Bool (is_name name alias.0)))),
)

given_are : (bytes : List ℕ) (aliases : Pairs) → LinesGive bytes aliases → AreAliases aliases
given_are bytes aliases gives = record {
  ordered = gives.gathered.ordered;
  each = All-from_recursion IsAlias aliases (all_found aliases gives.gathered.ordered
      (λ name stem at. last_found gives.pairs name stem (recursion_from_All IsAlias gives.pairs (all_given gives.lines gives.pairs gives.given)) (sym (gives.gathered.values name) ∙ at)));
}

pub read_are : (bytes : List ℕ) (aliases : Pairs) → AliasesOf bytes aliases → AreAliases aliases
read_are _ _ (too_long bytes long) = record { ordered = IsInOrder-nil (List ℕ); each = All-nil IsAlias }
read_are _ _ (read bytes aliases fits gives) = given_are bytes aliases gives

-- ---- how long the text of aliases is

length_escape : (byte : ℕ) → length (escape byte) ≤ 3
length_escape byte = ⊎_elim (λ plain. rw plain (omega arith)) (λ odd. rw odd (omega arith)) (cases_Bool (is_ascii_alphanumeric byte))

length_stem : (stem : List ℕ) → length (escaped stem) ≤ 3 * length stem
length_stem [] = omega arith
length_stem (byte ∷ stem) = omega (arith, length-append (escape byte) (escaped stem), length_escape byte, length_stem stem)

length_line : (alias : List ℕ × List ℕ) → IsAlias alias → length (line_of alias ++ 10 ∷ []) ≤ 795
length_line alias is =
    omega (arith, length-append (line_of alias) (10 ∷ []), length-append alias.0 (61 ∷ escaped alias.1), length_stem alias.1, is.0.fits, is.1.fits)

length_text : (aliases : Pairs) → AllByRecursion IsAlias aliases → length (text_of aliases) ≤ 795 * length aliases
unfolding text_of
length_text [] all = omega arith
length_text (alias ∷ aliases) (is, all) =
    omega (arith, length-append (line_of alias ++ 10 ∷ []) (text_of aliases), length_line alias is, length_text aliases all)

pub few_fit : (aliases : Pairs) → AreAliases aliases → length aliases ≤ most_aliases → length (text_of aliases) ≤ longest
few_fit aliases are few = omega (arith, length_text aliases (recursion_from_All IsAlias aliases are.each), few)
