-- The spelling of a value of a basic type is read again, whatever follows.
use Rattle.std.proofs.Common.{◌≡◌, ℕ, zero, suc, ◌+◌, ◌<◌, ◌≤◌, ◌^◌, ◌&&◌, Bool, true, false, List, [], ◌∷◌, ◌++◌, length, Result, Ok, Err, refl, sym, ap, subst, ◌∙◌, arith, append_assoc, length-append}
use Rattle.std.specs.Prelude.{if◌then◌else◌, nat_le}
use Rattle.std.specs.Int.{Width, w8, w32, byte_len}
use Rattle.std.proofs.lemmas.Bool.{le-ltb, leb-true}
use Rattle.std.proofs.lemmas.List.{take_at, drop_at, get_or_at, length_push, length-replicate}
use Rattle.dbus_types.specs.declared.complete_type.BasicType.{BasicType}
use Rattle.dbus_types.specs.declared.complete_type.BasicType.TheVariants as basics
use Rattle.dbus_types.specs.declared.endian.Endian.{Endian}
use Rattle.dbus_types.specs.Types.{Tys, is_signature, are_within, texts_of, nesting_limit, signature_limit}
use Rattle.dbus_types.specs.Values.{Val}
use Rattle.dbus_types.specs.Signatures.{◌>>=◌, signature_at}
use Rattle.dbus_types.proofs.SignatureLaws.{signature_of}
use Rattle.dbus_marshal.specs.declared.refused.ValueFault.{ValueFault}
use Rattle.dbus_marshal.specs.declared.refused.ValueFault.TheVariants.{BadText, BadSignature}
use Rattle.dbus_marshal.specs.Wire.{width_of, padding, behind, start_of, zeros, number_bytes, limit_of, is_text, IsTextOf}
use Rattle.dbus_marshal.specs.Spelling.{aligned, number_spelled, text_spelled, spelled}
use Rattle.dbus_marshal.specs.Unmarshal.{Spot, bytes_at, are_zero, padding_at, number_at, basic_number_at, ended_at, string_at, path_at, listed, signature_value_at, basic_at}
use Rattle.dbus_marshal.proofs.Taking.{IsWide, wide8, wide32}
use Rattle.dbus_marshal.proofs.TakenBasics.{is_plain, plain_wide}

second_of : (a b : Bool) → (a && b) ≡ true → b ≡ true
second_of true b e = e
second_of false b e = absurd cc

-- the bytes from a position on
abbrev pub at : ℕ → List ℕ → Spot
at place left = record { place = place; left = left }

pub behind_twice : (place a b : ℕ) → behind (behind place a) b ≡ behind place (a + b)
behind_twice place a b = omega arith

pub bytes_again : (place n : ℕ) (xs rest : List ℕ) → length xs ≡ n → bytes_at n (at place (xs ++ rest)) ≡ Ok (xs, at (behind place n) rest)
unfolding bytes_at
bytes_again place n xs rest long =
    let enough : n ≤ length (xs ++ rest) = omega (arith, length-append xs rest, long) in
    rw (le-ltb _ _ enough, take_at xs rest n long, drop_at xs rest n long) refl

zeros_clear : (n : ℕ) → are_zero (zeros n) ≡ true
zeros_clear zero = refl
zeros_clear (suc n) = zeros_clear n

pub padding_again : (alignment place : ℕ) (rest : List ℕ) → padding_at alignment (at place (zeros (padding alignment place) ++ rest)) ≡ Ok (at (start_of alignment place) rest)
unfolding padding_at
padding_again alignment place rest =
    let n = padding alignment place in
    let long : length (zeros n) ≡ n = length-replicate {A = ℕ} n 0 in
    rw (take_at (zeros n) rest n long, zeros_clear n, bytes_again place n (zeros n) rest long) refl

pub number_again : (w : Width) (limit : ℕ) → IsWide w limit → (endian : Endian) (place n : ℕ) (rest : List ℕ) → n < limit
    → number_at endian w (at place (aligned (byte_len w) place (number_bytes endian w n) ++ rest)) ≡ Ok (n, at (behind (start_of (byte_len w) place) (byte_len w)) rest)
unfolding number_at
number_again w limit wide endian place n rest below =
    rw (
      append_assoc (zeros (padding (byte_len w) place)) (number_bytes endian w n) rest,
      padding_again (byte_len w) place (number_bytes endian w n ++ rest),
      bytes_again (start_of (byte_len w) place) (byte_len w) (number_bytes endian w n) rest (wide.len endian n),
      wide.again endian n below,
    ) refl

-- where a number ends
number_end : (w : Width) (limit : ℕ) → IsWide w limit → (endian : Endian) (place n : ℕ) → behind (start_of (byte_len w) place) (byte_len w) ≡ behind place (length (aligned (byte_len w) place (number_bytes endian w n)))
number_end w limit wide endian place n =
    behind_twice place (padding (byte_len w) place) (byte_len w)
    ∙ ap (behind place) (sym (length-append (zeros (padding (byte_len w) place)) (number_bytes endian w n) ∙ ap (λ (k : ℕ). k + length (number_bytes endian w n)) (length-replicate {A = ℕ} (padding (byte_len w) place) 0)
    ∙ ap (λ (k : ℕ). padding (byte_len w) place + k) (wide.len endian n)))

-- a value of a basic type is read again
abbrev pub BasicAgain : Endian → BasicType → Val → ℕ → List ℕ → Type 0
BasicAgain endian b v place rest = basic_at endian b (at place (spelled endian v place ++ rest)) ≡ Ok (v, at (behind place (length (spelled endian v place))) rest)

basic_number_at-plain : (endian : Endian) (b : BasicType) (spot : Spot) → is_plain b ≡ true → basic_at endian b spot ≡ (number_at endian (width_of b) spot >>= λ n. Ok (Val.number b n.0, n.1))
unfolding basic_at basic_number_at
basic_number_at-plain endian basics.Byte spot p = refl
basic_number_at-plain endian basics.Boolean spot p = absurd cc
basic_number_at-plain endian basics.Int16 spot p = refl
basic_number_at-plain endian basics.Uint16 spot p = refl
basic_number_at-plain endian basics.Int32 spot p = refl
basic_number_at-plain endian basics.Uint32 spot p = refl
basic_number_at-plain endian basics.Int64 spot p = refl
basic_number_at-plain endian basics.Uint64 spot p = refl
basic_number_at-plain endian basics.Double spot p = refl
basic_number_at-plain endian basics.UnixFd spot p = refl
basic_number_at-plain endian basics.String spot p = absurd cc
basic_number_at-plain endian basics.ObjectPath spot p = absurd cc
basic_number_at-plain endian basics.Signature spot p = absurd cc

plain_again : (endian : Endian) (b : BasicType) (n place : ℕ) (rest : List ℕ) → is_plain b ≡ true → n < limit_of b → BasicAgain endian b (Val.number b n) place rest
plain_again endian b n place rest plain below =
    basic_number_at-plain endian b (at place (number_spelled endian b n place ++ rest)) plain
    ∙ rw (number_again (width_of b) (limit_of b) (plain_wide b plain) endian place n rest below)
    (ap (λ (p : ℕ). Ok (Val.number b n, at p rest)) (number_end (width_of b) (limit_of b) (plain_wide b plain) endian place n))

boolean_again : (endian : Endian) (n place : ℕ) (rest : List ℕ) → n < 2 → BasicAgain endian basics.Boolean (Val.number basics.Boolean n) place rest
unfolding basic_at basic_number_at
boolean_again endian n place rest below =
    rw (number_again w32 (2 ^ 32) wide32 endian place n rest (omega arith), le-ltb 1 n (omega arith))
    (ap (λ (p : ℕ). Ok (Val.number basics.Boolean n, at p rest)) (number_end w32 (2 ^ 32) wide32 endian place n))

-- ---- texts

ended_again : (fault : ValueFault) (count place : ℕ) (text rest : List ℕ) → length text ≡ count → ended_at fault count (at place ((text ++ 0 ∷ []) ++ rest)) ≡ Ok (text, at (behind place (count + 1)) rest)
unfolding ended_at
ended_again fault count place text rest long =
    let whole : length (text ++ 0 ∷ []) ≡ count + 1 = length_push text 0 ∙ ap (λ (k : ℕ). k + 1) long in
    rw (bytes_again place (count + 1) (text ++ 0 ∷ []) rest whole, get_or_at text 0 [] 0 count long, take_at text (0 ∷ []) count long) refl

-- where a text ends
text_end : (w : Width) (limit : ℕ) → IsWide w limit → (endian : Endian) (place : ℕ) (text : List ℕ)
    → behind (behind (start_of (byte_len w) place) (byte_len w)) (length text + 1) ≡ behind place (length (aligned (byte_len w) place (number_bytes endian w (length text) ++ (text ++ 0 ∷ []))))
text_end w limit wide endian place text =
    behind_twice (start_of (byte_len w) place) (byte_len w) (length text + 1) ∙ behind_twice place (padding (byte_len w) place) (byte_len w + (length text + 1))
    ∙ ap (behind place) (sym (length-append (zeros (padding (byte_len w) place)) (number_bytes endian w (length text) ++ (text ++ 0 ∷ []))
    ∙ ap (λ (k : ℕ). k + length (number_bytes endian w (length text) ++ (text ++ 0 ∷ []))) (length-replicate {A = ℕ} (padding (byte_len w) place) 0)
    ∙ ap (λ (k : ℕ). padding (byte_len w) place + k) (length-append (number_bytes endian w (length text)) (text ++ 0 ∷ [])
    ∙ ap (λ (k : ℕ). k + length (text ++ 0 ∷ [])) (wide.len endian (length text)) ∙ ap (λ (k : ℕ). byte_len w + k) (length_push text 0))))

regroup : (zs ns ts rest : List ℕ) → (zs ++ (ns ++ ts)) ++ rest ≡ (zs ++ ns) ++ (ts ++ rest)
regroup zs ns ts rest = append_assoc zs (ns ++ ts) rest ∙ ap (λ (r : List ℕ). zs ++ r) (append_assoc ns ts rest) ∙ sym (append_assoc zs ns (ts ++ rest))

-- a length and the text after it are read again
counted_again : (w : Width) (limit : ℕ) → IsWide w limit → (endian : Endian) (fault : ValueFault) (place : ℕ) (text rest : List ℕ) → length text < limit
    → (number_at endian w (at place (aligned (byte_len w) place (number_bytes endian w (length text) ++ (text ++ 0 ∷ [])) ++ rest)) >>= λ n. ended_at fault n.0 n.1)
    ≡ Ok (text, at (behind place (length (aligned (byte_len w) place (number_bytes endian w (length text) ++ (text ++ 0 ∷ []))))) rest)
counted_again w limit wide endian fault place text rest below =
    rw (
      regroup (zeros (padding (byte_len w) place)) (number_bytes endian w (length text)) (text ++ 0 ∷ []) rest,
      number_again w limit wide endian place (length text) ((text ++ 0 ∷ []) ++ rest) below,
    )
    (ended_again fault (length text) (behind (start_of (byte_len w) place) (byte_len w)) text rest refl ∙ ap (λ (p : ℕ). Ok (text, at p rest)) (text_end w limit wide endian place text))

then_then : {A B C E : Type 0} (r : Result A E) (f : A → Result B E) (g : B → Result C E) → (r >>= λ x. f x >>= g) ≡ ((r >>= f) >>= g)
then_then (Ok x) f g = refl
then_then (Err e) f g = refl

string_again : (endian : Endian) (place : ℕ) (text rest : List ℕ) → length text < 2 ^ 32 → is_text text ≡ true
    → string_at endian (at place (text_spelled endian basics.String text place ++ rest)) ≡ Ok (text, at (behind place (length (text_spelled endian basics.String text place))) rest)
unfolding string_at
string_again endian place text rest below is =
    then_then (number_at endian w32 (at place (text_spelled endian basics.String text place ++ rest))) (λ n. ended_at BadText n.0 n.1) (λ x. if is_text x.0 then Ok x else Err BadText)
    ∙ rw (counted_again w32 (2 ^ 32) wide32 endian BadText place text rest below, is) refl

pub signature_again : (endian : Endian) (place : ℕ) (ts : Tys) (rest : List ℕ) → is_signature ts ≡ true
    → signature_value_at endian (at place (text_spelled endian basics.Signature (texts_of ts) place ++ rest)) ≡ Ok (ts, at (behind place (length (text_spelled endian basics.Signature (texts_of ts) place))) rest)
unfolding signature_value_at
signature_again endian place ts rest valid =
    let short : length (texts_of ts) ≤ signature_limit = leb-true _ _ (second_of (are_within nesting_limit nesting_limit ts) (nat_le (length (texts_of ts)) signature_limit) valid) in
    then_then (number_at endian w8 (at place (text_spelled endian basics.Signature (texts_of ts) place ++ rest))) (λ n. ended_at BadSignature n.0 n.1) (λ x. listed (signature_at x.0) >>= λ us. Ok (us, x.1))
    ∙ rw (counted_again w8 (2 ^ 8) wide8 endian BadSignature place (texts_of ts) rest (omega arith), signature_of (texts_of ts) ts valid refl) refl

pub basic_again : (endian : Endian) (b : BasicType) (n place : ℕ) (rest : List ℕ) → n < limit_of b → BasicAgain endian b (Val.number b n) place rest
basic_again endian basics.Byte n place rest below = plain_again endian basics.Byte n place rest refl below
basic_again endian basics.Boolean n place rest below = boolean_again endian n place rest below
basic_again endian basics.Int16 n place rest below = plain_again endian basics.Int16 n place rest refl below
basic_again endian basics.Uint16 n place rest below = plain_again endian basics.Uint16 n place rest refl below
basic_again endian basics.Int32 n place rest below = plain_again endian basics.Int32 n place rest refl below
basic_again endian basics.Uint32 n place rest below = plain_again endian basics.Uint32 n place rest refl below
basic_again endian basics.Int64 n place rest below = plain_again endian basics.Int64 n place rest refl below
basic_again endian basics.Uint64 n place rest below = plain_again endian basics.Uint64 n place rest refl below
basic_again endian basics.Double n place rest below = plain_again endian basics.Double n place rest refl below
basic_again endian basics.UnixFd n place rest below = plain_again endian basics.UnixFd n place rest refl below
basic_again endian basics.String n place rest below = absurd (omega arith)
basic_again endian basics.ObjectPath n place rest below = absurd (omega arith)
basic_again endian basics.Signature n place rest below = absurd (omega arith)

signature_text_again : (endian : Endian) (place : ℕ) (ts : Tys) (rest : List ℕ) → is_signature ts ≡ true → BasicAgain endian basics.Signature (Val.text basics.Signature (texts_of ts)) place rest
unfolding basic_at
signature_text_again endian place ts rest valid = rw (signature_again endian place ts rest valid) refl

pub text_again : (endian : Endian) (b : BasicType) (text : List ℕ) (place : ℕ) (rest : List ℕ) → IsTextOf b text → BasicAgain endian b (Val.text b text) place rest
unfolding basic_at path_at
text_again endian basics.String text place rest is = rw (string_again endian place text rest is.1 is.0) refl
text_again endian basics.ObjectPath text place rest is = rw (string_again endian place text rest is.0.1 is.0.0, is.1) refl
text_again endian basics.Signature text place rest is =
    subst (λ (bs : List ℕ). BasicAgain endian basics.Signature (Val.text basics.Signature bs) place rest) (sym is.2) (signature_text_again endian place is.0 rest is.1)
text_again endian b text place rest is = absurd is
