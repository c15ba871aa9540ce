-- What the first 16 bytes say, and that it stays whatever follows.
use Rattle.std.proofs.Common.{◌≡◌, ◌≢◌, ℕ, ◌+◌, ◌≤◌, ◌==◌, Bool, true, false, cond, not, List, ◌++◌, length, take, drop, get_or, Option, Some, None, Result, Ok, Err, refl, ap, subst, ◌∙◌, arith, length-drop, lit≤}
use Rattle.std.specs.Prelude.{nat_lt}
use Rattle.std.specs.Int.{w32}
use Rattle.std.proofs.lemmas.Bool.{eqb-true, eqb-false, ne_eqb, eq-eqb, le-ltb, ltb-false}
use Rattle.std.proofs.lemmas.List.{drop-append-le, take-append-le, get_or_append_left}
use Rattle.dbus_types.specs.declared.endian.Endian.{Endian}
use Rattle.dbus_marshal.specs.Wire.{number_from}
use Rattle.dbus_framing.specs.declared.violation.Violation.{Violation}
use Rattle.dbus_framing.specs.declared.violation.Violation.TheVariants as violation
use Rattle.dbus_framing.specs.declared.head.Head.{Head}
use Rattle.dbus_framing.specs.Messages.{endian_of, word_at, size_at, marked_head, head_of}

pub word_more : (endian : Endian) (place : ℕ) (bytes more : List ℕ) → place + 4 ≤ length bytes → word_at endian place (bytes ++ more) ≡ word_at endian place bytes
unfolding word_at
word_more endian place bytes more fits =
    ap (λ (w : List ℕ). number_from endian w32 w)
    (ap (take 4) (drop-append-le place bytes more (omega arith)) ∙ take-append-le 4 (drop place bytes) more (omega (arith, length-drop place bytes)))

-- two texts whose first 16 bytes say the same
pub record SameStart (one other : List ℕ) : Type 0 where
  pub mark : get_or one 0 0 ≡ get_or other 0 0
  pub kind : get_or one 1 0 ≡ get_or other 1 0
  pub version : get_or one 3 0 ≡ get_or other 3 0
  pub word : (endian : Endian) (place : ℕ) → place ≤ 12 → word_at endian place one ≡ word_at endian place other

pub start_stays : (bytes more : List ℕ) → 16 ≤ length bytes → SameStart (bytes ++ more) bytes
start_stays bytes more begun = record {
  mark = get_or_append_left bytes more 0 0 (omega arith);
  kind = get_or_append_left bytes more 0 1 (omega arith);
  version = get_or_append_left bytes more 0 3 (omega arith);
  word = λ endian place near. word_more endian place bytes more (omega arith);
}

pub size_same : (endian : Endian) (one other : List ℕ) → SameStart one other → size_at endian one ≡ size_at endian other
size_same endian one other same =
    let body = same.word endian 4 (lit≤ tt) in
    let fields = same.word endian 12 (lit≤ tt) in
    cc

-- the rows after the byte order, as a function of the numbers that they look at
abbrev rows : ℕ → Endian → ℕ → ℕ → ℕ → ℕ → Result Head Violation
rows most endian kind version serial size =
    cond (kind == 0) (Err violation.InvalidType)
    (cond (not (version == 1)) (Err violation.Version)
    (cond (serial == 0) (Err violation.ZeroSerial)
    (cond (nat_lt most size) (Err violation.TooLarge) (Ok (record { endian = endian; size = size })))))

rows_same : (most : ℕ) (endian : Endian) (a b c d e f g h : ℕ) → a ≡ e → b ≡ f → c ≡ g → d ≡ h → rows most endian a b c d ≡ rows most endian e f g h
rows_same most endian a b c d e f g h p q r s = cc

marked_same : (most : ℕ) (one other : List ℕ) (mark : Option Endian) → SameStart one other → marked_head most one mark ≡ marked_head most other mark
marked_same most one other None same = refl
marked_same most one other (Some endian) same =
    rows_same most endian _ _ _ _ _ _ _ _ same.kind same.version (same.word endian 8 (lit≤ tt)) (size_same endian one other same)

pub head_same : (most : ℕ) (one other : List ℕ) → SameStart one other → head_of most one ≡ head_of most other
head_same most one other same =
    ap (λ (mark : ℕ). marked_head most one (endian_of mark)) same.mark ∙ marked_same most one other (endian_of (get_or other 0 0)) same

pub head_stays : (most : ℕ) (bytes more : List ℕ) → 16 ≤ length bytes → head_of most (bytes ++ more) ≡ head_of most bytes
head_stays most bytes more begun = head_same most (bytes ++ more) bytes (start_stays bytes more begun)

-- what it takes to pass each row
pub record Passes (most : ℕ) (endian : Endian) (bytes : List ℕ) : Type 0 where
  pub typed : get_or bytes 1 0 ≢ 0
  pub version : get_or bytes 3 0 ≡ 1
  pub numbered : word_at endian 8 bytes ≢ 0
  pub within : size_at endian bytes ≤ most

pub passed : (most : ℕ) (endian : Endian) (bytes : List ℕ) → endian_of (get_or bytes 0 0) ≡ Some endian → Passes most endian bytes
    → head_of most bytes ≡ Ok (record { endian = endian; size = size_at endian bytes })
passed most endian bytes marked passes =
    ap (marked_head most bytes) marked
    ∙ rw (ne_eqb _ _ passes.typed, eq-eqb _ _ passes.version, ne_eqb _ _ passes.numbered, le-ltb _ _ passes.within) refl

abbrev headed : Head → Result Head Violation
headed head = Ok head

headed_is : (one other : Head) → headed one ≡ headed other → one ≡ other
headed_is one other e = cc

-- what passes, by the tests
record ByTests (a b c d : Bool) (one other : Head) : Type 0 where
  typed : a ≡ false
  version : b ≡ true
  numbered : c ≡ false
  within : d ≡ false
  is : one ≡ other

by_tests : (a b c d : Bool) (one other : Head) → cond a (Err violation.InvalidType) (cond (not b) (Err violation.Version) (cond c (Err violation.ZeroSerial) (cond d (Err violation.TooLarge) (headed one)))) ≡ headed other → ByTests a b c d one other
by_tests true b c d one other e = absurd cc
by_tests false false c d one other e = absurd cc
by_tests false true true d one other e = absurd cc
by_tests false true false true one other e = absurd cc
by_tests false true false false one other e = record { typed = refl; version = refl; numbered = refl; within = refl; is = headed_is one other e }

-- what a head says of the bytes
pub record Heads (most : ℕ) (bytes : List ℕ) (head : Head) : Type 0 where
  pub marked : endian_of (get_or bytes 0 0) ≡ Some head.endian
  pub passes : Passes most head.endian bytes
  pub size : head.size ≡ size_at head.endian bytes

heads_by : (most : ℕ) (bytes : List ℕ) (head : Head) (mark : Option Endian) → endian_of (get_or bytes 0 0) ≡ mark → marked_head most bytes mark ≡ Ok head → Heads most bytes head
heads_by most bytes head None marked e = absurd cc
heads_by most bytes head (Some endian) marked e =
    let t = by_tests (get_or bytes 1 0 == 0) (get_or bytes 3 0 == 1) (word_at endian 8 bytes == 0) (nat_lt most (size_at endian bytes)) (record { endian = endian; size = size_at endian bytes }) head e in
    subst (λ (h : Head). Heads most bytes h) t.is (record {
      marked = marked;
      passes = record { typed = eqb-false _ _ t.typed; version = eqb-true _ _ t.version; numbered = eqb-false _ _ t.numbered; within = ltb-false _ _ t.within };
      size = refl;
    })

pub heads : (most : ℕ) (bytes : List ℕ) (head : Head) → head_of most bytes ≡ Ok head → Heads most bytes head
heads most bytes head e = heads_by most bytes head (endian_of (get_or bytes 0 0)) refl e

pub size_begun : (endian : Endian) (bytes : List ℕ) → 16 ≤ size_at endian bytes
size_begun endian bytes = omega arith
