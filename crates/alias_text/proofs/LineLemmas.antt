-- Lines that give an alias, and where they are cut.
use Rattle.std.proofs.Common.{◌≡◌, ◌≢◌, ℕ, ◌<◌, List, [], ◌∷◌, ◌++◌, length, get_or, Bor, Option, None, Some, MatchOption, IsTrue, IsUtf8, refl, sym, ◌∙◌, ap, subst, arith}
use Rattle.std.specs.List.{All, AllByRecursion, Contains}
use Rattle.std.proofs.lemmas.List.Elements.{All-from_get_or, All-append, All-contains, All-weaker, All-cons, recursion_from_All, Contains-append_right}
use Rattle.kr_base.specs.Stem.{IsStem}
use Rattle.kr_base.specs.Text.{HasZero}
use Rattle.kr_names.specs.Escape.{escaped, unescaped, is_path_byte, IsEscapeOf}
use Rattle.kr_names.specs.Path.{IsAliasName}
use Rattle.kr_names.proofs.TextLemmas.{IsPlain, IsText-plain, bytes_fit}
use Rattle.kr_names.proofs.EscapeLemmas.{escaped_spelled, path_bytes_plain, unescaped_escaped}
use Rattle.alias_text.specs.Line.{IsCut, IsPair}
use Rattle.alias_text.specs.Writing.{line_of}

-- the bytes of a name of an alias are ASCII
alias_plain : (name : List ℕ) → IsAliasName name → All IsPlain name
alias_plain name alias = path_bytes_plain name alias.bytes

stem_plain : (stem : List ℕ) → IsStem stem → All IsPlain (escaped stem)
stem_plain stem is = path_bytes_plain (escaped stem) (escaped_spelled stem (bytes_fit stem is.text.utf8))

-- so a line that gives an alias is a text
pub pair_is_text : (line name stem : List ℕ) → IsPair line name stem → IsUtf8 line
pair_is_text line name stem pair =
    (IsText-plain line (subst (λ l. All IsPlain l) (sym pair.spelled)
    (All-append IsPlain name (61 ∷ escaped stem) (alias_plain name pair.alias)
    (All-cons IsPlain 61 (escaped stem) (omega arith, omega arith) (stem_plain stem pair.is_stem))))).utf8

pub alias_no_zero : (name : List ℕ) → IsAliasName name → HasZero name → ⊥
alias_no_zero name alias zero = (IsText-plain name (alias_plain name alias)).no_zero zero

-- it contains a `=`
pub not_cut : (line name stem : List ℕ) → All (λ byte. byte ≢ 61) line → IsPair line name stem → ⊥
not_cut line name stem lacks pair =
    All-contains (λ byte. byte ≢ 61) line 61 lacks
    (subst (λ l. Contains l 61) (sym pair.spelled) (Contains-append_right name (61 ∷ escaped stem) 61 (0, omega arith, refl))) refl

-- and the name of the alias contains none
lacks_mark : (name : List ℕ) → IsAliasName name → All (λ byte. byte ≢ 61) name
lacks_mark name alias = All-weaker (λ byte. IsTrue (is_path_byte byte)) (λ byte. byte ≢ 61)
    (λ byte is same. let wrong : IsTrue (is_path_byte 61) = subst (λ b. IsTrue (is_path_byte b)) same is in cc) name alias.bytes

-- a text is cut in only one way
pub one_cut : (at : ℕ) (a b c d : List ℕ) → AllByRecursion (λ byte. byte ≢ at) a → AllByRecursion (λ byte. byte ≢ at) c → a ++ at ∷ b ≡ c ++ at ∷ d → (a ≡ c) × (b ≡ d)
one_cut at [] b [] d lacks also same = (refl, cc)
one_cut at [] b (x ∷ c) d lacks (first, rest) same = absurd (first cc)
one_cut at (x ∷ a) b [] d (first, rest) also same = absurd (first cc)
one_cut at (x ∷ a) b (y ∷ c) d (first, rest) (other, also) same =
    let deeper : (a ≡ c) × (b ≡ d) = one_cut at a b c d rest also cc in
    let head : x ≡ y = cc in
    (let front : a ≡ c = deeper.0 in cc, deeper.1)

pub cut_here : (line front back name stem : List ℕ) → IsCut 61 line front back → IsPair line name stem → (front ≡ name) × (back ≡ escaped stem)
cut_here line front back name stem cut pair = one_cut 61 front back name (escaped stem)
    (recursion_from_All (λ byte. byte ≢ 61) front cut.first)
    (recursion_from_All (λ byte. byte ≢ 61) name (lacks_mark name pair.alias))
    (sym cut.spelled ∙ pair.spelled)

pub not_alias : (line front back name stem : List ℕ) → IsCut 61 line front back → ¬ (IsAliasName front) → IsPair line name stem → ⊥
not_alias line front back name stem cut no_alias pair =
    no_alias (subst (λ n. IsAliasName n) (sym (cut_here line front back name stem cut pair).0) pair.alias)

pub not_escape : (line front back name stem : List ℕ) → IsCut 61 line front back → ((s : List ℕ) → IsEscapeOf s back → ⊥) → IsPair line name stem → ⊥
not_escape line front back name stem cut no_escape pair =
    no_escape stem (record { is_stem = pair.is_stem; spelled = (cut_here line front back name stem cut pair).1 })

pub is_pair : (line front back stem : List ℕ) → IsCut 61 line front back → IsAliasName front → IsEscapeOf stem back → IsPair line front stem
is_pair line front back stem cut alias escape = record {
  alias = alias;
  is_stem = escape.is_stem;
  spelled = cut.spelled ∙ ap (λ b. front ++ 61 ∷ b) escape.spelled;
}

-- what a search for the first `=` says of the line
pub cut_read : (line : List ℕ) (r : Option (Bor (List ℕ) × Bor (List ℕ)))
    → MatchOption r ((i : ℕ) → i < length line → get_or line i 0 ≢ 61) (λ x. (line ≡ x.0.now ++ (61 ∷ x.1.now)) × ((i : ℕ) → i < length x.0.now → get_or x.0.now i 0 ≢ 61))
    → MatchOption r (All (λ byte. byte ≢ 61) line) (λ x. IsCut 61 line x.0.now x.1.now)
cut_read line None lacks = All-from_get_or (λ byte. byte ≢ 61) line 0 lacks
cut_read line (Some x) (spelled, first) = record {
  spelled = spelled;
  first = All-from_get_or (λ byte. byte ≢ 61) x.0.now 0 first;
}

-- a line gives only one alias
pub one_pair : (line name stem other also : List ℕ) → IsPair line name stem → IsPair line other also → (name ≡ other) × (stem ≡ also)
one_pair line name stem other also one two =
    let cut : (name ≡ other) × (escaped stem ≡ escaped also) = one_cut 61 name (escaped stem) other (escaped also)
    (recursion_from_All (λ byte. byte ≢ 61) name (lacks_mark name one.alias))
    (recursion_from_All (λ byte. byte ≢ 61) other (lacks_mark other two.alias))
    (sym one.spelled ∙ two.spelled) in
    (cut.0, sym (unescaped_escaped stem (bytes_fit stem one.is_stem.text.utf8)) ∙ ap unescaped cut.1 ∙ unescaped_escaped also (bytes_fit also two.is_stem.text.utf8))

-- the line of an alias gives it, and contains no line ending
pub line_is_pair : (alias : List ℕ × List ℕ) → IsAliasName alias.0 → IsStem alias.1 → IsPair (line_of alias) alias.0 alias.1
line_is_pair alias named is = record { alias = named; is_stem = is; spelled = refl }

path_bytes_on_line : (bytes : List ℕ) → All (λ byte. IsTrue (is_path_byte byte)) bytes → All (λ byte. byte ≢ 10) bytes
path_bytes_on_line bytes all = All-weaker (λ byte. IsTrue (is_path_byte byte)) (λ byte. byte ≢ 10)
    (λ byte is same. let wrong : IsTrue (is_path_byte 10) = subst (λ b. IsTrue (is_path_byte b)) same is in cc) bytes all

pub line_is_one : (alias : List ℕ × List ℕ) → IsAliasName alias.0 → IsStem alias.1 → All (λ byte. byte ≢ 10) (line_of alias)
line_is_one alias named is =
    All-append (λ byte. byte ≢ 10) alias.0 (61 ∷ escaped alias.1) (path_bytes_on_line alias.0 named.bytes)
    (All-cons (λ byte. byte ≢ 10) 61 (escaped alias.1) (omega arith)
    (path_bytes_on_line (escaped alias.1) (escaped_spelled alias.1 (bytes_fit alias.1 is.text.utf8))))
