-- What is heard doesn't depend on how the bytes are cut.
use Rattle.std.proofs.Common.{◌≡◌, ◌≢◌, ℕ, zero, suc, ◌+◌, ◌-◌, ◌<◌, ◌≤◌, Bool, true, false, cond, List, [], ◌∷◌, ◌++◌, length, take, drop, Result, Ok, Err, refl, sym, ap, subst, ◌∙◌, arith, length-append, length-drop, inl, inr}
use Rattle.std.specs.Prelude.{nat_lt}
use Rattle.std.proofs.lemmas.Bool.{cases_lt, le-ltb, lt-ltb}
use Rattle.std.proofs.lemmas.List.{drop_all, take-append-le}
use Rattle.dbus_marshal.specs.Wire.{padding}
use Rattle.dbus_framing.specs.declared.head.Head.{Head}
use Rattle.dbus_framing.specs.declared.violation.Violation.{Violation}
use Rattle.dbus_framing.specs.Messages.{body_start, fields_end, head_of, word_at}
use Rattle.dbus_framing.proofs.Heads.{head_stays, word_more}
use Rattle.bus_framing.specs.declared.heard.BodyFault.TheVariants.{TooLarge}
use Rattle.bus_framing.specs.Looks.{Look, Said, waits, passes, hears, bare_look, long_look, look_at, look_by, most_bytes, most_read, short_look, whole_look}
use Rattle.bus_framing.proofs.LookLemmas.{passes_some}
use Rattle.bus_framing.specs.Links.{AreHeard, HearsNext, IsLinked, Linking, Passes, here, on, none, next, beyond, fed_with}

-- ---- lists

pub drop_both : {A : Type 0} (n : ℕ) (xs ys : List A) → drop n (xs ++ ys) ≡ drop n xs ++ drop (n - length xs) ys
drop_both zero xs ys = let e : zero ≡ zero - length xs = omega arith in ap (λ (k : ℕ). xs ++ drop k ys) e
drop_both (suc n) [] ys = let e : suc n ≡ suc n - zero = omega arith in ap (λ (k : ℕ). drop k ys) e
drop_both (suc n) (x ∷ xs) ys = let e : n - length xs ≡ suc n - length (x ∷ xs) = omega arith in drop_both n xs ys ∙ ap (λ (k : ℕ). drop n xs ++ drop k ys) e

-- ---- a look stays, whatever follows, unless more bytes were awaited

-- a message that isn't too long
short_stays : (head : Head) (bytes more : List ℕ) → short_look head bytes ≢ waits → short_look head (bytes ++ more) ≡ short_look head bytes
short_stays head bytes more not = elim (cases_lt (length bytes) head.size) [
  | inl lt ↦ absurd (not (ap (λ (b : Bool). cond b waits (whole_look head.endian (take head.size bytes))) (lt-ltb _ _ lt)))
  | inr le ↦
      ap (λ (b : Bool). cond b waits (whole_look head.endian (take head.size (bytes ++ more)))) (le-ltb (length (bytes ++ more)) head.size (omega (arith, le, length-append bytes more)))
      ∙ ap (whole_look head.endian) (take-append-le head.size bytes more le)
      ∙ sym (ap (λ (b : Bool). cond b waits (whole_look head.endian (take head.size bytes))) (le-ltb _ _ le))
]

-- a message that is too long, by whether its fields are, and by where its body begins
abbrev long_by : Head → List ℕ → Bool → ℕ → Look
long_by head bytes beyond body = cond beyond (passes head.size) (cond (nat_lt (length bytes) body) waits (bare_look head.endian (take body bytes) head.size TooLarge))

long_by_stays : (head : Head) (bytes more : List ℕ) (beyond : Bool) (body : ℕ) → long_by head bytes beyond body ≢ waits
    → long_by head (bytes ++ more) beyond body ≡ long_by head bytes beyond body
long_by_stays head bytes more true body not = refl
long_by_stays head bytes more false body not = elim (cases_lt (length bytes) body) [
  | inl lt ↦ absurd (not (ap (λ (b : Bool). cond b waits (bare_look head.endian (take body bytes) head.size TooLarge)) (lt-ltb _ _ lt)))
  | inr le ↦
      ap (λ (b : Bool). cond b waits (bare_look head.endian (take body (bytes ++ more)) head.size TooLarge)) (le-ltb (length (bytes ++ more)) body (omega (arith, le, length-append bytes more)))
      ∙ ap (λ (front : List ℕ). bare_look head.endian front head.size TooLarge) (take-append-le body bytes more le)
      ∙ sym (ap (λ (b : Bool). cond b waits (bare_look head.endian (take body bytes) head.size TooLarge)) (le-ltb _ _ le))
]

long_stays : (head : Head) (bytes more : List ℕ) → 16 ≤ length bytes → long_look head bytes ≢ waits → long_look head (bytes ++ more) ≡ long_look head bytes
long_stays head bytes more begun not =
    let word : word_at head.endian 12 (bytes ++ more) ≡ word_at head.endian 12 bytes = word_more head.endian 12 bytes more (omega arith) in
    ap (λ (w : ℕ). long_by head (bytes ++ more) (nat_lt most_read (16 + w)) (16 + w + padding 8 w)) word
    ∙ long_by_stays head bytes more (nat_lt most_read (fields_end head.endian bytes)) (body_start head.endian bytes) not

by_size_stays : (head : Head) (bytes more : List ℕ) (long : Bool) → 16 ≤ length bytes → cond long (long_look head bytes) (short_look head bytes) ≢ waits
    → cond long (long_look head (bytes ++ more)) (short_look head (bytes ++ more)) ≡ cond long (long_look head bytes) (short_look head bytes)
by_size_stays head bytes more true begun not = long_stays head bytes more begun not
by_size_stays head bytes more false begun not = short_stays head bytes more not

look_by_stays : (bytes more : List ℕ) (head : Result Head Violation) → 16 ≤ length bytes → look_by bytes head ≢ waits → look_by (bytes ++ more) head ≡ look_by bytes head
look_by_stays bytes more (Err cause) begun not = refl
look_by_stays bytes more (Ok head) begun not = by_size_stays head bytes more (nat_lt most_read head.size) begun not

-- bytes of which there are 16
abbrev look_begun : Bool → List ℕ → Look
look_begun few bytes = cond few waits (look_by bytes (head_of most_bytes bytes))

pub look_stays : (bytes more : List ℕ) → look_at bytes ≢ waits → look_at (bytes ++ more) ≡ look_at bytes
look_stays bytes more not = elim (cases_lt (length bytes) 16) [
  | inl lt ↦ absurd (not (ap (λ (b : Bool). look_begun b bytes) (lt-ltb _ _ lt)))
  | inr le ↦
      let few : nat_lt (length bytes) 16 ≡ false = le-ltb _ _ le in
      let looked : look_at bytes ≡ look_by bytes (head_of most_bytes bytes) = ap (λ (b : Bool). look_begun b bytes) few in
      ap (λ (b : Bool). look_begun b (bytes ++ more)) (le-ltb (length (bytes ++ more)) 16 (omega (arith, le, length-append bytes more)))
      ∙ ap (look_by (bytes ++ more)) (head_stays most_bytes bytes more le)
      ∙ look_by_stays bytes more (head_of most_bytes bytes) le (λ e. not (looked ∙ e))
      ∙ sym looked
]

-- ---- what is passed over

passes_not : (size : ℕ) → passes size ≢ waits
passes_not size e = absurd cc

hears_not : (size : ℕ) (said : Said) → hears size said ≢ waits
hears_not size said e = absurd cc

-- no byte is skipped where a look finds something
settled : (left : List ℕ) (debt : ℕ) → (debt ≢ 0 → left ≡ []) → look_at left ≢ waits → debt ≡ 0
settled left zero linked not = refl
settled left (suc debt) linked not = absurd (not (ap look_at (linked (omega arith))))

pub beyond_linked : (size : ℕ) (bytes : List ℕ) → IsLinked (beyond size bytes)
beyond_linked size bytes = λ owes. drop_all size bytes (omega (arith, owes))

abbrev link : List ℕ → ℕ → Linking
link left debt = record { left = left; debt = debt }

-- what is after a message, in all bytes
beyond_fed : (size : ℕ) (bytes piece : List ℕ) → beyond size (bytes ++ piece) ≡ fed_with piece (beyond size bytes)
beyond_fed size bytes piece =
    let debt : size - length (bytes ++ piece) ≡ (size - length bytes) - length piece = omega (arith, length-append bytes piece) in
    ap (λ (left : List ℕ). link left (size - length (bytes ++ piece))) (drop_both size bytes piece)
    ∙ ap (link (drop size bytes ++ drop (size - length bytes) piece)) debt

-- what the bytes begin with that are fed to a link which skips none
fed_left : (piece : List ℕ) (it : Linking) → it.debt ≡ 0 → (fed_with piece it).left ≡ it.left ++ piece
fed_left piece it no_debt = ap (λ (debt : ℕ). it.left ++ drop debt piece) no_debt

-- the link after a message, once more bytes have come, and that it is linked
pub record Further (piece : List ℕ) (size : ℕ) (look : Look) (mid : Linking) : Type 0 where
  pub looked : look_at (fed_with piece mid).left ≡ look
  pub behind : beyond size (fed_with piece mid).left ≡ fed_with piece (beyond size mid.left)

pub further : (piece : List ℕ) (size : ℕ) (look : Look) (mid : Linking) → IsLinked mid → look ≢ waits → look_at mid.left ≡ look → Further piece size look mid
further piece size look mid linked not looked =
    let some : look_at mid.left ≢ waits = λ e. not (sym looked ∙ e) in
    let left = fed_left piece mid (settled mid.left mid.debt linked some) in
    record {
      looked = ap look_at left ∙ look_stays mid.left piece some ∙ looked;
      behind = ap (beyond size) left ∙ beyond_fed size mid.left piece;
    }

-- the same of messages that are passed over
pub record Passed (piece : List ℕ) (from to : Linking) : Type 0 where
  pub passed : Passes (fed_with piece from) (fed_with piece to)
  pub linked : IsLinked to

pub passed_fed : (piece : List ℕ) (from to : Linking) → IsLinked from → Passes from to → Passed piece from to
passed_fed piece from to linked here = record { passed = here; linked = linked }
passed_fed piece from to linked (on mid size before looked) =
    let was = passed_fed piece from mid linked before in
    let it = further piece size (passes size) mid was.linked (passes_not size) looked in
    record {
      passed = subst (λ (end : Linking). Passes (fed_with piece from) end) it.behind (on (fed_with piece mid) size was.passed it.looked);
      linked = beyond_linked size mid.left;
    }

-- ---- what is heard

pub record HeardOn (piece : List ℕ) (from : Linking) (saids : List Said) (to : Linking) : Type 0 where
  pub heard : AreHeard (fed_with piece from) saids (fed_with piece to)
  pub linked : IsLinked to

next_fed : (piece : List ℕ) (from : Linking) (said : Said) (to : Linking) → IsLinked from → HearsNext from said to → HearsNext (fed_with piece from) said (fed_with piece to)
next_fed piece from said to linked it =
    let was = passed_fed piece from it.mid linked it.passed in
    let on = further piece it.size (hears it.size said) it.mid was.linked (hears_not it.size said) it.heard in
    record {
      mid = fed_with piece it.mid;
      size = it.size;
      passed = was.passed;
      heard = on.looked;
      behind = ap (fed_with piece) it.behind ∙ sym on.behind;
    }

next_linked : (from : Linking) (said : Said) (to : Linking) → HearsNext from said to → IsLinked to
next_linked from said to it = subst IsLinked (sym it.behind) (beyond_linked it.size it.mid.left)

pub heard_on : (piece : List ℕ) (from : Linking) (saids : List Said) (to : Linking) → IsLinked from → AreHeard from saids to → HeardOn piece from saids to
heard_on piece from saids to linked (none end passed) = let was = passed_fed piece from to linked passed in record { heard = none (fed_with piece to) was.passed; linked = was.linked }
heard_on piece from saids to linked (next mid end before said heard last) =
    let was = heard_on piece from before mid linked heard in
    record {
      heard = next (fed_with piece mid) (fed_with piece to) before said was.heard (next_fed piece mid said to was.linked last);
      linked = next_linked mid said to last;
    }

-- ---- one message further on

pub step_smaller : (was now new : Linking) (size : ℕ) → now ≡ was → new ≡ beyond size now.left → passes size ≡ look_at was.left → length new.left < length was.left
step_smaller was now new size same is looked =
    let some = passes_some was.left size (sym looked) in
    let long : length new.left ≡ length was.left - size = ap (λ (l : Linking). length l.left) is ∙ ap (λ (l : Linking). length (drop size l.left)) same ∙ length-drop size was.left in
    omega (arith, long, some.some, some.there)

pub step_passed : (from was now new : Linking) (size : ℕ) → Passes from was → now ≡ was → new ≡ beyond size now.left → passes size ≡ look_at was.left → Passes from new
step_passed from was now new size passed same is looked =
    subst (λ (end : Linking). Passes from end) (sym (is ∙ ap (λ (l : Linking). beyond size l.left) same)) (on was size passed (sym looked))
