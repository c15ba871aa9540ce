-- Bytes cut at their first CR LF.
use Rattle.std.proofs.Common.{◌≡◌, ℕ, ◌+◌, ◌<◌, ◌==◌, Bool, true, false, ◌&&◌, cond, List, [], ◌∷◌, ◌++◌, length, take, drop, zero, suc, get_or, Option, Some, None, refl, sym, ap, ◌∙◌, arith, length-append}
use Rattle.std.specs.Prelude.{option_map}
use Rattle.std.proofs.lemmas.Bool.{and_parts, and_from, eqb-true, eq-eqb, false≢true}
use Rattle.dbus_auth.specs.Lines.{Cut, cut_led_by, first_cut, is_led_by, line_end, EndsAt}

-- a byte and those after it begin with CR LF
abbrev ends_here : ℕ → List ℕ → Bool
ends_here c bytes = c == 13 && is_led_by 10 bytes

-- the bytes begin with a LF
led_by_feed : (bytes : List ℕ) → is_led_by 10 bytes ≡ true → (rest : List ℕ) × (bytes ≡ 10 ∷ rest)
led_by_feed [] h = cc h
led_by_feed (d ∷ rest) h = (rest, ap (λ (x : ℕ). x ∷ rest) (eqb-true d 10 h))

-- the first cut is at this byte, or after it
pub data CutOf (c : ℕ) (bytes : List ℕ) : Type 0 where
  here : (rest : List ℕ) → c ≡ 13 → bytes ≡ 10 ∷ rest → first_cut (c ∷ bytes) ≡ Some (record { line = []; rest = rest }) → CutOf c bytes
  behind : ends_here c bytes ≡ false → first_cut (c ∷ bytes) ≡ option_map (cut_led_by c) (first_cut bytes) → CutOf c bytes

pub cut_of : (c : ℕ) (bytes : List ℕ) → CutOf c bytes
cut_of c bytes =
    let at : Bool → Option Cut = λ b. cond b (Some (record { line = []; rest = drop 1 bytes })) (option_map (cut_led_by c) (first_cut bytes)) in
    elim (ends_here c bytes) as (λ b. ends_here c bytes ≡ b → CutOf c bytes) [
      | true ↦ λ e.
          let parts = and_parts (c == 13) (is_led_by 10 bytes) e in
          let led = led_by_feed bytes parts.1 in
          here led.0 (eqb-true c 13 parts.0) led.1 (ap at e ∙ ap (λ (l : List ℕ). Some (record { line = []; rest = drop 1 l })) led.1)
      | false ↦ λ e. behind e (ap at e)
    ] refl

-- a mapped option
mapped : (f : Cut → Cut) (o : Option Cut) (cut : Cut) → option_map f o ≡ Some cut → (first : Cut) × (o ≡ Some first) × (cut ≡ f first)
mapped f None cut h = cc h
mapped f (Some first) cut h = (first, refl, cc h)

not_mapped : (f : Cut → Cut) (o : Option Cut) → option_map f o ≡ None → o ≡ None
not_mapped f None h = refl
not_mapped f (Some first) h = cc h

-- a line, its ending and the rest are the bytes
pub first_cut-whole : (bytes : List ℕ) (cut : Cut) → first_cut bytes ≡ Some cut → bytes ≡ cut.line ++ (line_end ++ cut.rest)
first_cut-whole [] cut h = cc h
first_cut-whole (c ∷ bytes) cut h =
    elim (cut_of c bytes) [
      | here rest cr lf is ↦
          let e : record { line = []; rest = rest } ≡ cut = cc (sym is ∙ h) in
          rw (cr, lf, ← e) refl
      | behind other is ↦
          let m = mapped (cut_led_by c) (first_cut bytes) cut (sym is ∙ h) in
          rw m.2 (ap (λ (l : List ℕ). c ∷ l) (first_cut-whole bytes m.0 m.1))
    ]

-- a byte that doesn't begin CR LF is the first of the line
led_line : (c : ℕ) (bytes : List ℕ) → ends_here c bytes ≡ false → first_cut (c ∷ bytes) ≡ option_map (cut_led_by c) (first_cut bytes)
led_line c bytes other =
    ap (λ b. cond b (Some (record { line = []; rest = drop 1 bytes })) (option_map (cut_led_by c) (first_cut bytes))) other

-- one byte has no cut
one_uncut : (c : ℕ) → first_cut (c ∷ []) ≡ None
one_uncut c = elim (cut_of c []) [ here rest cr lf is ↦ cc lf | behind other is ↦ is ]

-- more bytes after a cut are in its rest
pub first_cut-append : (bytes more : List ℕ) (cut : Cut) → first_cut bytes ≡ Some cut → first_cut (bytes ++ more) ≡ Some (record { line = cut.line; rest = cut.rest ++ more })
first_cut-append [] more cut h = cc h
first_cut-append (c ∷ []) more cut h = cc (sym (one_uncut c) ∙ h)
first_cut-append (c ∷ d ∷ bytes) more cut h =
    elim (cut_of c (d ∷ bytes)) [
      | here rest cr lf is ↦
          let e : record { line = []; rest = rest } ≡ cut = cc (sym is ∙ h) in
          let whole : c ∷ d ∷ bytes ≡ 13 ∷ 10 ∷ rest = rw (cr, lf) refl in
          ap (λ (l : List ℕ). first_cut (l ++ more)) whole ∙ ap (λ (k : Cut). Some (record { line = k.line; rest = k.rest ++ more })) e
      | behind other is ↦
          let m = mapped (cut_led_by c) (first_cut (d ∷ bytes)) cut (sym is ∙ h) in
          led_line c (d ∷ (bytes ++ more)) other ∙ ap (option_map (cut_led_by c)) (first_cut-append (d ∷ bytes) more m.0 m.1)
          ∙ ap (λ (k : Cut). Some (record { line = k.line; rest = k.rest ++ more })) (sym m.2)
    ]

-- a cut that appears with more bytes is at the seam or after it
pub first_cut-late : (bytes more : List ℕ) (cut : Cut) → first_cut bytes ≡ None → first_cut (bytes ++ more) ≡ Some cut → length bytes < length cut.line + 2
first_cut-late [] more cut none some = omega arith
first_cut-late (c ∷ []) more cut none some = omega arith
first_cut-late (c ∷ d ∷ bytes) more cut none some =
    elim (cut_of c (d ∷ bytes)) [
      | here rest cr lf is ↦ cc (sym is ∙ none)
      | behind other is ↦
          let before = not_mapped (cut_led_by c) (first_cut (d ∷ bytes)) (sym is ∙ none) in
          let m = mapped (cut_led_by c) (first_cut (d ∷ (bytes ++ more))) cut (sym (led_line c (d ∷ (bytes ++ more)) other) ∙ some) in
          let late = first_cut-late (d ∷ bytes) more m.0 before m.1 in
          let longer : length cut.line ≡ length m.0.line + 1 = ap (λ (k : Cut). length k.line) m.2 ∙ omega arith in
          omega arith
    ]

-- a line without CR LF is cut off at the CR LF after it
pub first_cut-line : (line rest : List ℕ) → first_cut line ≡ None → first_cut (line ++ (line_end ++ rest)) ≡ Some (record { line = line; rest = rest })
first_cut-line [] rest none = refl
first_cut-line (c ∷ []) rest none =
    elim (cut_of c (line_end ++ rest)) [
      | here later cr lf is ↦ cc lf
      | behind other is ↦ is
    ]
first_cut-line (c ∷ d ∷ line) rest none =
    elim (cut_of c (d ∷ line)) [
      | here later cr lf is ↦ cc (sym is ∙ none)
      | behind other is ↦
          let before = not_mapped (cut_led_by c) (first_cut (d ∷ line)) (sym is ∙ none) in
          led_line c (d ∷ (line ++ (line_end ++ rest))) other ∙ ap (option_map (cut_led_by c)) (first_cut-line (d ∷ line) rest before)
    ]

-- a line that was cut off contains no CR LF
pub first_cut-alone : (bytes : List ℕ) (cut : Cut) → first_cut bytes ≡ Some cut → first_cut cut.line ≡ None
first_cut-alone bytes cut h =
    elim (first_cut cut.line) as (λ o. first_cut cut.line ≡ o → o ≡ None) [
      | None ↦ λ e. refl
      | Some early ↦ λ e.
          let whole = first_cut-whole bytes cut h in
          let again = first_cut-append cut.line (line_end ++ cut.rest) early e in
          let same : Some cut ≡ Some (record { line = early.line; rest = early.rest ++ (line_end ++ cut.rest) }) = sym h ∙ ap first_cut whole ∙ again in
          let lines : cut.line ≡ early.line = cc same in
          let long = ap (λ (l : List ℕ). length l) (first_cut-whole cut.line early e) in
          absurd (omega (arith, simp length-append at long, ap (λ (l : List ℕ). length l) lines))
    ] refl

-- a byte after which the test fails isn't CR before LF
not_behind : (c : ℕ) (bytes : List ℕ) → ends_here c bytes ≡ false → EndsAt (c ∷ bytes) 0 → ⊥
not_behind c [] other ends = absurd (omega (arith, ends.1))
not_behind c (d ∷ bytes) other ends =
    false≢true (sym other ∙ and_from (c == 13) (d == 10) (eq-eqb c 13 ends.0) (eq-eqb d 10 ends.1))

-- a position counted from the next byte
EndsAt-tail : (c : ℕ) (bytes : List ℕ) (k : ℕ) → EndsAt (c ∷ bytes) (suc k) → EndsAt bytes k
EndsAt-tail c bytes k ends =
    let e : suc k + 1 ≡ suc (k + 1) = omega arith in
    (ends.0, sym (ap (λ (n : ℕ). get_or (c ∷ bytes) n 0) e) ∙ ends.1)

EndsAt-cons : (c : ℕ) (bytes : List ℕ) (k : ℕ) → EndsAt bytes k → EndsAt (c ∷ bytes) (suc k)
EndsAt-cons c bytes k ends =
    let e : suc k + 1 ≡ suc (k + 1) = omega arith in
    (ends.0, ap (λ (n : ℕ). get_or (c ∷ bytes) n 0) e ∙ ends.1)

-- the bytes are cut at the first position of a CR LF
pub first_cut-at : (bytes : List ℕ) (place : ℕ) → EndsAt bytes place → ((k : ℕ) → k < place → EndsAt bytes k → ⊥)
    → first_cut bytes ≡ Some (record { line = take place bytes; rest = drop (place + 2) bytes })
first_cut-at [] zero ends first = absurd (omega (arith, ends.0))
first_cut-at [] (suc place) ends first = absurd (omega (arith, ends.0))
first_cut-at (c ∷ bytes) zero ends first =
    elim (cut_of c bytes) [
      | here rest cr lf is ↦ is ∙ ap (λ (l : List ℕ). Some (record { line = []; rest = drop 1 l })) (sym lf)
      | behind other is ↦ absurd (not_behind c bytes other ends)
    ]
first_cut-at (c ∷ bytes) (suc place) ends first =
    elim (cut_of c bytes) [
      | here rest cr lf is ↦ absurd (first 0 (omega arith) (cr, ap (λ (l : List ℕ). get_or l 0 0) lf))
      | behind other is ↦
          let e : suc (place + 2) ≡ suc place + 2 = omega arith in
          is ∙ ap (option_map (cut_led_by c)) (first_cut-at bytes place (EndsAt-tail c bytes place ends) (λ k below at. first (suc k) (omega arith) (EndsAt-cons c bytes k at)))
          ∙ ap (λ (n : ℕ). Some (record { line = c ∷ take place bytes; rest = drop n (c ∷ bytes) })) e
    ]

-- bytes without CR LF aren't cut
pub first_cut-nowhere : (bytes : List ℕ) → ((k : ℕ) → EndsAt bytes k → ⊥) → first_cut bytes ≡ None
first_cut-nowhere [] none = refl
first_cut-nowhere (c ∷ bytes) none =
    elim (cut_of c bytes) [
      | here rest cr lf is ↦ absurd (none 0 (cr, ap (λ (l : List ℕ). get_or l 0 0) lf))
      | behind other is ↦ is ∙ ap (option_map (cut_led_by c)) (first_cut-nowhere bytes (λ k at. none (suc k) (EndsAt-cons c bytes k at)))
    ]
