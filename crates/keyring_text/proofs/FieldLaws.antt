-- The fields: a number, a time, a string and a text are read as they are spelled.
use Rattle.std.proofs.Common.{◌≡◌, ◌≢◌, ℕ, zero, suc, ◌^◌, ◌<◌, ◌≤◌, Bool, true, false, cond, not, ◌&&◌, eqb, ltb, List, [], ◌∷◌, ◌++◌, length, take, drop, Ok, Err, refl, sym, ap, subst, ◌∙◌, arith, inl, inr}
use Rattle.std.specs.Int.{byte_at, bytes_high_first}
use Rattle.std.specs.List.{list_any}
use Rattle.std.specs.Str.{is_utf8}
use Rattle.std.proofs.lemmas.Cmp.{nat_eq_equiv}
use Rattle.std.proofs.lemmas.Bool.{cases_lt, ltb-false, le-ltb, lt-ltb, eqb-true, eqb-false}
use Rattle.std.proofs.lemmas.List.{take_at, drop_at, take-append-drop, length-append, length-take, get_or-take, get_or_past, append-nil}
use Rattle.std.proofs.lemmas.Map.Views.{list_any-from_Contains, Contains-from_any}
use Rattle.std.proofs.lemmas.Nat.{be_bytes_4, be_bytes_8, from_be_bytes-to_be_bytes_4, from_be_bytes-to_be_bytes_8}
use Rattle.std.proofs.lemmas.Str.{IsUtf8-from_is_utf8, is_utf8-from_IsUtf8}
use Rattle.kr_base.specs.Text.{IsText}
use Rattle.keyring_text.specs.declared.fault.FieldFault.{FieldFault}
use Rattle.keyring_text.specs.declared.fault.FieldFault.TheVariants.{Short, BadText}
use Rattle.keyring_text.specs.Fields.{IsBytes, number, number_of, time, time_of, none_length, SpellsNumber, SpellsTime, SpellsString, some, none, SpellsText}
use Rattle.keyring_text.specs.FieldReading.{span_at, number_at, time_at, string_at, is_text, text_at}
use Rattle.keyring_text.proofs.Laws.{Taken, Always, Reads, Parted, step, give, alike, ok_is}
use Rattle.keyring_text.proofs.ListLaws.{found, tested}

-- ---- n bytes

-- n bytes, as they are
pub record IsSpelled (n : ℕ) (x text : List ℕ) : Type 0 where
  pub is : text ≡ x
  pub len : length x ≡ n

-- the same, for elements that are bytes
pub record IsSpelledBytes (n : ℕ) (x text : List ℕ) : Type 0 where
  pub spelled : IsSpelled n x text
  pub fits : IsBytes x

pub guard_ok : {A F : Type 0} (b : Bool) (d : F) (x y : A) (bytes rest : List ℕ) → cond b (Err d) (found x bytes) ≡ found y rest → (b ≡ false) × (x ≡ y) × (bytes ≡ rest)
guard_ok true d x y bytes rest e = absurd cc
guard_ok {F = F} false d x y bytes rest e = (refl, ap (λ (p : _ × List ℕ). p.0) (ok_is {F = F} (x, bytes) (y, rest) e), ap (λ (p : _ × List ℕ). p.1) (ok_is {F = F} (x, bytes) (y, rest) e))

span-takes : (n : ℕ) (bytes x rest : List ℕ) → span_at n bytes ≡ Ok (x, rest) → Taken Always (IsSpelled n) bytes x rest
span-takes n bytes x rest e =
    let g = guard_ok (ltb (length bytes) n) Short (take n bytes) x (drop n bytes) rest e in
    let long : n ≤ length bytes = ltb-false _ _ g.0 in
    record {
      text = x;
      parts = sym (take-append-drop n bytes) ∙ ap (λ w. w ++ drop n bytes) g.1 ∙ ap (λ w. x ++ w) g.2;
      kept = tt;
      is = record { is = refl; len = ap length (sym g.1) ∙ (omega (arith, length-take n bytes)) };
    }

span-again : (n : ℕ) (x text rest : List ℕ) → IsSpelled n x text → span_at n (text ++ rest) ≡ Ok (x, rest)
span-again n x text rest s =
    let len : length text ≡ n = ap length s.is ∙ s.len in
    let long : ltb (length (text ++ rest)) n ≡ false = le-ltb _ _ (omega (arith, length-append text rest)) in
    rw (long, take_at text rest n len, drop_at text rest n len) (ap (λ w. found w rest) s.is)

span-cut : (n : ℕ) (x text : List ℕ) (m : ℕ) → IsSpelled n x text → m < length text → span_at n (take m text) ≡ Err Short
span-cut n x text m s lt =
    let len : length text ≡ n = ap length s.is ∙ s.len in
    let less : length (take m text) < n = omega (arith, length-take m text) in
    rw (lt-ltb _ _ less) refl

pub span_law : (n : ℕ) → Reads Short (IsSpelled n) (λ bytes. span_at n bytes)
span_law n = record { takes = λ bytes x rest fits e. span-takes n bytes x rest e; again = λ x text rest h s. span-again n x text rest s; cut = λ x text m h s lt. span-cut n x text m s lt }

IsBytes-take : (n : ℕ) (bytes : List ℕ) → IsBytes bytes → IsBytes (take n bytes)
IsBytes-take n bytes h i =
    elim (cases_lt i n) [
      | inl lt ↦ rw (get_or-take n bytes i 0 lt) (h i)
      | inr le ↦ rw (get_or_past (take n bytes) i 0 (omega (arith, length-take n bytes))) (omega arith)
    ]

span_bytes-takes : (n : ℕ) (bytes x rest : List ℕ) → IsBytes bytes → span_at n bytes ≡ Ok (x, rest) → Taken Always (IsSpelledBytes n) bytes x rest
span_bytes-takes n bytes x rest fits e =
    let g = guard_ok (ltb (length bytes) n) Short (take n bytes) x (drop n bytes) rest e in
    let t = span-takes n bytes x rest e in
    record { text = t.text; parts = t.parts; kept = tt; is = record { spelled = t.is; fits = subst IsBytes g.1 (IsBytes-take n bytes fits) } }

span_bytes_law : (n : ℕ) → Reads Short (IsSpelledBytes n) (λ bytes. span_at n bytes)
span_bytes_law n = record { takes = span_bytes-takes n; again = λ x text rest h s. span-again n x text rest s.spelled; cut = λ x text m h s lt. span-cut n x text m s.spelled lt }

-- ---- numbers and times

pub length-number : (n : ℕ) → length (number n) ≡ 4
unfolding number
length-number n = refl

pub length-time : (n : ℕ) → length (time n) ≡ 8
unfolding time
length-time n = refl

-- a list of n bytes
IsBytes-nil : IsBytes []
IsBytes-nil i = omega arith

IsBytes-cons : (b : ℕ) (bytes : List ℕ) → b < 256 → IsBytes bytes → IsBytes (b ∷ bytes)
IsBytes-cons b bytes lt fits zero = lt
IsBytes-cons b bytes lt fits (suc i) = fits i

byte_at-below : (k n : ℕ) → byte_at k n < 256
byte_at-below zero n = omega arith
byte_at-below (suc k) n = omega arith

IsBytes-high : (k n : ℕ) → IsBytes (bytes_high_first k n)
IsBytes-high zero n = IsBytes-nil
IsBytes-high (suc k) n = IsBytes-cons (byte_at k n) (bytes_high_first k n) (byte_at-below k n) (IsBytes-high k n)

IsBytes-number : (n : ℕ) → IsBytes (number n)
unfolding number
IsBytes-number n = IsBytes-high 4 n

IsBytes-time : (n : ℕ) → IsBytes (time n)
unfolding time
IsBytes-time n = IsBytes-high 8 n

number-back : (x : List ℕ) → length x ≡ 4 → IsBytes x → number (number_of x) ≡ x
unfolding number number_of
number-back x len fits = be_bytes_4 x _ len fits refl

number-again : (n : ℕ) → n < 2 ^ 32 → number_of (number n) ≡ n
unfolding number number_of
number-again n lt = from_be_bytes-to_be_bytes_4 n lt

number-below : (x : List ℕ) → IsBytes x → number_of x < 2 ^ 32
unfolding number_of
number-below x fits = omega (arith, fits 0, fits 1, fits 2, fits 3)

time-back : (x : List ℕ) → length x ≡ 8 → IsBytes x → time (time_of x) ≡ x
unfolding time time_of
time-back x len fits = be_bytes_8 x _ len fits refl

time-again : (n : ℕ) → n < 2 ^ 64 → time_of (time n) ≡ n
unfolding time time_of
time-again n lt = from_be_bytes-to_be_bytes_8 n lt

time-below : (x : List ℕ) → IsBytes x → time_of x < 2 ^ 64
unfolding time_of
time-below x fits = omega (arith, fits 0, fits 1, fits 2, fits 3, fits 4, fits 5, fits 6, fits 7)

-- four bytes that spell a number
number-up : (n : ℕ) (x text : List ℕ) → IsSpelledBytes 4 x text → number_of x ≡ n → SpellsNumber n text
number-up n x text s e =
    record { fits = subst (λ m. m < 2 ^ 32) e (number-below x s.fits); is = s.spelled.is ∙ sym (number-back x s.spelled.len s.fits) ∙ ap number e }

pub number_law : Reads Short SpellsNumber number_at
unfolding number_at
number_law =
    step (span_bytes_law 4) (λ x. give {holds = λ n. number_of x ≡ n} (number_of x) refl (λ n e. e))
    (λ x n front back s e nothing. record { kept = tt; is = subst (λ w. SpellsNumber n w) (sym (ap (λ w. front ++ w) nothing ∙ append-nil front)) (number-up n x front s e) })
    (λ n text h s. record { x = number n; front = text; back = []; parts = sym (append-nil text); is_first = record { spelled = record { is = s.is; len = length-number n }; fits = IsBytes-number n }; kept = number-again n s.fits; is_second = refl })

time-up : (t : ℕ) (x text : List ℕ) → IsSpelledBytes 8 x text → time_of x ≡ t → SpellsTime t text
time-up t x text s e = record { fits = subst (λ m. m < 2 ^ 64) e (time-below x s.fits); is = s.spelled.is ∙ sym (time-back x s.spelled.len s.fits) ∙ ap time e }

pub time_law : Reads Short SpellsTime time_at
unfolding time_at
time_law =
    step (span_bytes_law 8) (λ x. give {holds = λ t. time_of x ≡ t} (time_of x) refl (λ t e. e))
    (λ x t front back s e nothing. record { kept = tt; is = subst (λ w. SpellsTime t w) (sym (ap (λ w. front ++ w) nothing ∙ append-nil front)) (time-up t x front s e) })
    (λ t text h s. record { x = time t; front = text; back = []; parts = sym (append-nil text); is_first = record { spelled = record { is = s.is; len = length-time t }; fits = IsBytes-time t }; kept = time-again t s.fits; is_second = refl })

-- ---- strings

-- what comes after a string's length
pub data Behind (n : ℕ) (s text : List ℕ) : Type 0 where
  empty : n ≡ none_length → s ≡ [] → text ≡ [] → Behind n s text
  whole : n ≢ none_length → IsSpelled n s text → Behind n s text

behind-takes : (n : ℕ) (b : Bool) (bytes s rest : List ℕ) → eqb n none_length ≡ b → cond b (found [] bytes) (span_at n bytes) ≡ Ok (s, rest) → Taken Always (Behind n) bytes s rest
behind-takes n true bytes s rest t e =
    let p = ok_is {F = FieldFault} ([], bytes) (s, rest) e in
    record { text = []; parts = ap (λ (q : List ℕ × List ℕ). q.1) p; kept = tt; is = empty (eqb-true n none_length t) (sym (ap (λ (q : List ℕ × List ℕ). q.0) p)) refl }
behind-takes n false bytes s rest t e =
    let u = span-takes n bytes s rest e in
    record { text = u.text; parts = u.parts; kept = tt; is = whole (eqb-false n none_length t) u.is }

behind-again : (n : ℕ) (b : Bool) (s text rest : List ℕ) → eqb n none_length ≡ b → Behind n s text → cond b (found [] (text ++ rest)) (span_at n (text ++ rest)) ≡ Ok (s, rest)
behind-again n true s text rest t (empty e s-is text-is) = ap (λ w. found {F = FieldFault} [] (w ++ rest)) text-is ∙ ap (λ w. found w rest) (sym s-is)
behind-again n true s text rest t (whole ne is) = absurd (ne (eqb-true n none_length t))
behind-again n false s text rest t (empty e s-is text-is) = absurd (eqb-false n none_length t e)
behind-again n false s text rest t (whole ne is) = span-again n s text rest is

behind-cut : (n : ℕ) (b : Bool) (s text : List ℕ) (m : ℕ) → eqb n none_length ≡ b → Behind n s text → m < length text → cond b (found [] (take m text)) (span_at n (take m text)) ≡ Err Short
behind-cut n true s text m t (empty e s-is text-is) lt = absurd (omega (arith, ap length text-is))
behind-cut n true s text m t (whole ne is) lt = absurd (ne (eqb-true n none_length t))
behind-cut n false s text m t (empty e s-is text-is) lt = absurd (eqb-false n none_length t e)
behind-cut n false s text m t (whole ne is) lt = span-cut n s text m is lt

behind_law : (n : ℕ) → Reads Short (Behind n) (λ bytes. cond (eqb n none_length) (found [] bytes) (span_at n bytes))
behind_law n =
    record {
      takes = λ bytes x rest fits e. behind-takes n (eqb n none_length) bytes x rest refl e;
      again = λ x text rest h b. behind-again n (eqb n none_length) x text rest refl b;
      cut = λ x text m h b lt. behind-cut n (eqb n none_length) x text m refl b lt;
    }

string-up : (n : ℕ) (s front back : List ℕ) → SpellsNumber n front → Behind n s back → SpellsString s (front ++ back)
string-up n s front back num (empty e s-is back-is) = none s-is (ap (λ w. front ++ w) back-is ∙ append-nil front ∙ num.is ∙ ap number e)
string-up n s front back num (whole ne is) =
    some (omega (arith, num.fits, is.len, ne)) (ap (λ w. w ++ back) num.is ∙ ap (λ m. number m ++ back) (sym is.len) ∙ ap (λ w. number (length s) ++ w) is.is)

string-down : (s text : List ℕ) → SpellsString s text → Parted SpellsNumber (λ n (x : List ℕ). Always x) Behind s text
string-down s text (some lt is) =
    record { x = length s; front = number (length s); back = s; parts = is; is_first = record { fits = omega arith; is = refl }; kept = tt; is_second = whole (omega arith) (record { is = refl; len = refl }) }
string-down s text (none s-is is) =
    record { x = none_length; front = text; back = []; parts = sym (append-nil text); is_first = record { fits = omega arith; is = is }; kept = tt; is_second = empty refl s-is refl }

pub string_law : Reads Short SpellsString string_at
unfolding string_at
string_law = step number_law behind_law (λ n s front back num h b. record { kept = tt; is = string-up n s front back num b }) (λ s text h is. string-down s text is)

-- ---- texts

any-false : (b : Bool) → not b ≡ true → b ≡ false
any-false true e = absurd cc
any-false false e = refl

both-true : (a b : Bool) → (a && b) ≡ true → (a ≡ true) × (b ≡ true)
both-true true b e = (refl, e)
both-true false b e = absurd cc

no_zero-any : (b : Bool) → ((b ≡ true) → ⊥) → not b ≡ true
no_zero-any true h = absurd (h refl)
no_zero-any false h = refl

pub is_text-true : (bytes : List ℕ) → is_text bytes ≡ true → IsText bytes
unfolding is_text
is_text-true bytes e =
    let b = both-true (is_utf8 bytes) (not (list_any (eqb 0) bytes)) e in
    let f : list_any (eqb 0) bytes ≡ false = any-false _ b.1 in
    record { utf8 = IsUtf8-from_is_utf8 bytes b.0; no_zero = λ c. let y : list_any (eqb 0) bytes ≡ true = list_any-from_Contains nat_eq_equiv 0 bytes c in cc }

pub is_text-of : (bytes : List ℕ) → IsText bytes → is_text bytes ≡ true
unfolding is_text
is_text-of bytes t =
    let z : not (list_any (eqb 0) bytes) ≡ true = no_zero-any _ (λ y. t.no_zero (Contains-from_any eqb-true 0 bytes y)) in
    rw (is_utf8-from_IsUtf8 bytes t.utf8) z

pub text_law : Reads Short SpellsText text_at
unfolding text_at
text_law =
    alike (tested is_text BadText string_law) (λ t text h s. record { kept = tt; is = record { text = is_text-true t h; string = s } }) (λ t text h s. record { kept = is_text-of t s.text; is = s.string })
