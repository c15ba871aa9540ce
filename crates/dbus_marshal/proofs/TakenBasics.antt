-- What is read of a basic type fits it, and is spelled that way.
use Rattle.std.proofs.Common.{◌≡◌, ℕ, ◌+◌, ◌<◌, ◌^◌, ◌==◌, Bool, true, false, cond, List, [], ◌∷◌, ◌++◌, length, take, Result, Ok, Err, refl, sym, ap, subst, ◌∙◌, arith, inl, inr, append_assoc}
use Rattle.std.specs.Prelude.{if◌then◌else◌, slice_index, nat_lt}
use Rattle.std.specs.Int.{Width, w8, w32, byte_len}
use Rattle.std.proofs.lemmas.Bool.{cases_lt, lt-ltb, le-ltb}
use Rattle.std.proofs.lemmas.Bool.Decides.{eqb_tells}
use Rattle.std.proofs.lemmas.List.{take_all, take_more, length-take-le}
use Rattle.dbus_types.specs.declared.complete_type.BasicType.{BasicType}
use Rattle.dbus_types.specs.declared.complete_type.BasicType.TheVariants as basics
use Rattle.dbus_types.specs.declared.endian.Endian.{Endian}
use Rattle.dbus_types.specs.declared.signature.SignatureFault.{SignatureFault}
use Rattle.dbus_types.specs.Types.{Ty, Tys, is_signature, texts_of}
use Rattle.dbus_types.specs.Values.{Val}
use Rattle.dbus_types.specs.Paths.{is_object_path}
use Rattle.dbus_types.specs.Signatures.{◌>>=◌, signature_at}
use Rattle.dbus_types.proofs.SignatureLaws.{signature_takes}
use Rattle.dbus_marshal.specs.declared.refused.ValueFault.{ValueFault}
use Rattle.dbus_marshal.specs.declared.refused.ValueFault.TheVariants.{BadBool, BadText, BadPath, BadSignature}
use Rattle.dbus_marshal.specs.Wire.{width_of, padding, zeros, number_bytes, limit_of, is_text}
use Rattle.dbus_marshal.specs.Fitting.{Fits}
use Rattle.dbus_marshal.specs.Spelling.{aligned, text_spelled, spelled, is_short}
use Rattle.dbus_marshal.specs.Unmarshal.{Spot, bytes_at, number_at, is_number, basic_number_at, ended_at, string_at, path_at, listed, signature_value_at, basic_at}
use Rattle.dbus_marshal.proofs.Taking.{IsBytes, bind_ok, Takes, Takes-then, bytes_taken, number_taken, IsWide, wide8, wide16, wide32, wide64}

-- ---- numbers

abbrev value_done : Val × Spot → Result (Val × Spot) ValueFault
value_done x = Ok x

pub value_is : (x y : Val × Spot) → value_done x ≡ value_done y → x ≡ y
value_is x y e = cc

-- what a reader of values took from the start
pub record Took (depth : ℕ) (endian : Endian) (t : Ty) (spot : Spot) (x : Val × Spot) : Type 0 where
  pub fits : Fits depth t x.0
  pub short : is_short endian x.0 spot.place ≡ true
  pub takes : Takes spot (spelled endian x.0 spot.place) x.1

-- a number that isn't a boolean
abbrev pub is_plain : BasicType → Bool
is_plain basics.Boolean = false
is_plain b = is_number b

pub plain_wide : (b : BasicType) → is_plain b ≡ true → IsWide (width_of b) (limit_of b)
plain_wide basics.Byte p = wide8
plain_wide basics.Boolean p = absurd cc
plain_wide basics.Int16 p = wide16
plain_wide basics.Uint16 p = wide16
plain_wide basics.Int32 p = wide32
plain_wide basics.Uint32 p = wide32
plain_wide basics.Int64 p = wide64
plain_wide basics.Uint64 p = wide64
plain_wide basics.Double p = wide64
plain_wide basics.UnixFd p = wide32
plain_wide basics.String p = absurd cc
plain_wide basics.ObjectPath p = absurd cc
plain_wide basics.Signature p = absurd cc

plain_took : (depth : ℕ) (endian : Endian) (b : BasicType) (spot : Spot) (x : Val × Spot) → is_plain b ≡ true → IsBytes spot.left
    → (number_at endian (width_of b) spot >>= λ n. Ok (Val.number b n.0, n.1)) ≡ Ok x → Took depth endian (Ty.basic b) spot x
plain_took depth endian b spot x plain fits e =
    let a = bind_ok (number_at endian (width_of b) spot) (λ n. Ok (Val.number b n.0, n.1)) x e in
    let got = number_taken (width_of b) (limit_of b) (plain_wide b plain) endian spot a.0 fits a.1 in
    subst (λ (y : Val × Spot). Took depth endian (Ty.basic b) spot y) (value_is (Val.number b a.0.0, a.0.1) x a.2)
    (record { fits = (refl, got.1); short = refl; takes = got.0 })

boolean_took : (depth : ℕ) (endian : Endian) (spot : Spot) (x : Val × Spot) → IsBytes spot.left → basic_number_at endian basics.Boolean spot ≡ Ok x
    → Took depth endian (Ty.basic basics.Boolean) spot x
unfolding basic_number_at
boolean_took depth endian spot x fits e =
    let a = bind_ok (number_at endian w32 spot) (λ n. if nat_lt 1 n.0 then Err BadBool else Ok (Val.number basics.Boolean n.0, n.1)) x e in
    let got = number_taken w32 (2 ^ 32) wide32 endian spot a.0 fits a.1 in
    elim (cases_lt 1 a.0.0) [
      | inl lt ↦
          let none : Err BadBool ≡ value_done x = subst (λ (b : Bool). cond b (Err BadBool) (Ok (Val.number basics.Boolean a.0.0, a.0.1)) ≡ Ok x) (lt-ltb _ _ lt) a.2 in
          absurd cc
      | inr le ↦
          let some : value_done (Val.number basics.Boolean a.0.0, a.0.1) ≡ value_done x = subst (λ (b : Bool). cond b (Err BadBool) (Ok (Val.number basics.Boolean a.0.0, a.0.1)) ≡ Ok x) (le-ltb _ _ le) a.2 in
          subst (λ (y : Val × Spot). Took depth endian (Ty.basic basics.Boolean) spot y) (value_is (Val.number basics.Boolean a.0.0, a.0.1) x some)
          (record { fits = (refl, omega arith); short = refl; takes = got.0 })
    ]

-- ---- texts

abbrev text_done : List ℕ × Spot → Result (List ℕ × Spot) ValueFault
text_done x = Ok x

text_done_is : (x y : List ℕ × Spot) → text_done x ≡ text_done y → x ≡ y
text_done_is x y e = cc

ended_taken : (fault : ValueFault) (count : ℕ) (spot : Spot) (x : List ℕ × Spot) → IsBytes spot.left → ended_at fault count spot ≡ Ok x → Takes spot (x.0 ++ 0 ∷ []) x.1 × (length x.0 ≡ count)
unfolding ended_at
ended_taken fault count spot x fits e =
    let a = bind_ok (bytes_at (count + 1) spot) (λ y. if slice_index y.0 count == 0 then Ok (take count y.0, y.1) else Err fault) x e in
    let got = bytes_taken (count + 1) spot a.0 fits a.1 in
    elim (eqb_tells (slice_index a.0.0 count) 0) [
      | inl is ↦
          let some : text_done (take count a.0.0, a.0.1) ≡ text_done x = subst (λ (b : Bool). cond b (Ok (take count a.0.0, a.0.1)) (Err fault) ≡ Ok x) is.0 a.2 in
          let inside : count < length a.0.0 = omega (arith, got.1) in
          let whole : a.0.0 ≡ take count a.0.0 ++ 0 ∷ [] =
          sym (take_all (count + 1) a.0.0 (omega (arith, got.1))) ∙ take_more a.0.0 count 0 inside ∙ ap (λ (k : ℕ). take count a.0.0 ++ k ∷ []) is.1 in
          subst (λ (y : List ℕ × Spot). Takes spot (y.0 ++ 0 ∷ []) y.1 × (length y.0 ≡ count)) (text_done_is (take count a.0.0, a.0.1) x some)
          (subst (λ (bs : List ℕ). Takes spot bs a.0.1) whole got.0, length-take-le count a.0.0 (omega (arith, got.1)))
      | inr not ↦
          let none : Err fault ≡ text_done x = subst (λ (b : Bool). cond b (Ok (take count a.0.0, a.0.1)) (Err fault) ≡ Ok x) not.0 a.2 in
          absurd cc
    ]

-- a length and the text after it
behind_length : (w : Width) (limit : ℕ) → IsWide w limit → (endian : Endian) (fault : ValueFault) (spot : Spot) (n : ℕ × Spot) (x : List ℕ × Spot) → IsBytes spot.left
    → number_at endian w spot ≡ Ok n → ended_at fault n.0 n.1 ≡ Ok x
    → Takes spot (aligned (byte_len w) spot.place (number_bytes endian w (length x.0) ++ (x.0 ++ 0 ∷ []))) x.1 × (length x.0 < limit)
behind_length w limit wide endian fault spot n x fits counted ended =
    let first = number_taken w limit wide endian spot n fits counted in
    let second = ended_taken fault n.0 n.1 x first.0.fits ended in
    let both = Takes-then spot (aligned (byte_len w) spot.place (number_bytes endian w n.0)) n.1 (x.0 ++ 0 ∷ []) x.1 first.0 second.0 in
    let joined = append_assoc (zeros (padding (byte_len w) spot.place)) (number_bytes endian w n.0) (x.0 ++ 0 ∷ []) in (
      subst (λ (k : ℕ). Takes spot (aligned (byte_len w) spot.place (number_bytes endian w k ++ (x.0 ++ 0 ∷ []))) x.1) (sym second.1)
          (subst (λ (bs : List ℕ). Takes spot bs x.1) joined both),
      omega (arith, first.1, second.1),
    )

-- a test of what was read, or a fault
tested : (test : Bool) (fault : ValueFault) (a x : List ℕ × Spot) → cond test (Ok a) (Err fault) ≡ Ok x → (test ≡ true) × (a ≡ x)
tested true fault a x e = (refl, text_done_is a x e)
tested false fault a x e = absurd cc

string_taken : (endian : Endian) (spot : Spot) (x : List ℕ × Spot) → IsBytes spot.left → string_at endian spot ≡ Ok x
    → Takes spot (text_spelled endian basics.String x.0 spot.place) x.1 × (length x.0 < 2 ^ 32) × (is_text x.0 ≡ true)
unfolding string_at
string_taken endian spot x fits e =
    let a = bind_ok (number_at endian w32 spot) (λ n. ended_at BadText n.0 n.1 >>= λ y. if is_text y.0 then Ok y else Err BadText) x e in
    let b = bind_ok (ended_at BadText a.0.0 a.0.1) (λ y. if is_text y.0 then Ok y else Err BadText) x a.2 in
    let got = behind_length w32 (2 ^ 32) wide32 endian BadText spot a.0 b.0 fits a.1 b.1 in
    let test = tested (is_text b.0.0) BadText b.0 x b.2 in
    subst (λ (y : List ℕ × Spot). Takes spot (text_spelled endian basics.String y.0 spot.place) y.1 × (length y.0 < 2 ^ 32) × (is_text y.0 ≡ true)) test.1 (got.0, got.1, test.0)

string_took : (depth : ℕ) (endian : Endian) (spot : Spot) (x : Val × Spot) → IsBytes spot.left → (string_at endian spot >>= λ y. Ok (Val.text basics.String y.0, y.1)) ≡ Ok x
    → Took depth endian (Ty.basic basics.String) spot x
string_took depth endian spot x fits e =
    let a = bind_ok (string_at endian spot) (λ y. Ok (Val.text basics.String y.0, y.1)) x e in
    let got = string_taken endian spot a.0 fits a.1 in
    subst (λ (y : Val × Spot). Took depth endian (Ty.basic basics.String) spot y) (value_is (Val.text basics.String a.0.0, a.0.1) x a.2)
    (record { fits = (refl, (got.2, got.1)); short = refl; takes = got.0 })

path_took : (depth : ℕ) (endian : Endian) (spot : Spot) (x : Val × Spot) → IsBytes spot.left → (path_at endian spot >>= λ y. Ok (Val.text basics.ObjectPath y.0, y.1)) ≡ Ok x
    → Took depth endian (Ty.basic basics.ObjectPath) spot x
unfolding path_at
path_took depth endian spot x fits e =
    let a = bind_ok (string_at endian spot >>= λ y. if is_object_path y.0 then Ok y else Err BadPath) (λ y. Ok (Val.text basics.ObjectPath y.0, y.1)) x e in
    let b = bind_ok (string_at endian spot) (λ y. if is_object_path y.0 then Ok y else Err BadPath) a.0 a.1 in
    let got = string_taken endian spot b.0 fits b.1 in
    let test = tested (is_object_path b.0.0) BadPath b.0 a.0 b.2 in
    let took : Took depth endian (Ty.basic basics.ObjectPath) spot (Val.text basics.ObjectPath b.0.0, b.0.1) =
    record { fits = (refl, ((got.2, got.1), test.0)); short = refl; takes = got.0 } in
    subst (λ (y : Val × Spot). Took depth endian (Ty.basic basics.ObjectPath) spot y) (value_is (Val.text basics.ObjectPath a.0.0, a.0.1) x a.2)
    (subst (λ (y : List ℕ × Spot). Took depth endian (Ty.basic basics.ObjectPath) spot (Val.text basics.ObjectPath y.0, y.1)) test.1 took)

abbrev types_done : Tys × Spot → Result (Tys × Spot) ValueFault
types_done x = Ok x

types_done_is : (x y : Tys × Spot) → types_done x ≡ types_done y → x ≡ y
types_done_is x y e = cc

listed_ok : (read : Result Tys SignatureFault) (ts : Tys) → listed read ≡ Ok ts → read ≡ Ok ts
listed_ok (Ok us) ts e = let same : us ≡ ts = cc in ap (λ (u : Tys). Ok u) same
listed_ok (Err f) ts e = absurd cc

pub signature_taken : (endian : Endian) (spot : Spot) (x : Tys × Spot) → IsBytes spot.left → signature_value_at endian spot ≡ Ok x
    → Takes spot (text_spelled endian basics.Signature (texts_of x.0) spot.place) x.1 × (is_signature x.0 ≡ true)
unfolding signature_value_at
signature_taken endian spot x fits e =
    let a = bind_ok (number_at endian w8 spot) (λ n. ended_at BadSignature n.0 n.1 >>= λ y. listed (signature_at y.0) >>= λ ts. Ok (ts, y.1)) x e in
    let b = bind_ok (ended_at BadSignature a.0.0 a.0.1) (λ y. listed (signature_at y.0) >>= λ ts. Ok (ts, y.1)) x a.2 in
    let c = bind_ok (listed (signature_at b.0.0)) (λ ts. Ok (ts, b.0.1)) x b.2 in
    let got = behind_length w8 (2 ^ 8) wide8 endian BadSignature spot a.0 b.0 fits a.1 b.1 in
    let text = signature_takes b.0.0 c.0 (listed_ok (signature_at b.0.0) c.0 c.1) in
    subst (λ (y : Tys × Spot). Takes spot (text_spelled endian basics.Signature (texts_of y.0) spot.place) y.1 × (is_signature y.0 ≡ true)) (types_done_is (c.0, b.0.1) x c.2)
    (subst (λ (bs : List ℕ). Takes spot (text_spelled endian basics.Signature bs spot.place) b.0.1) text.1 got.0, text.0)

signature_took : (depth : ℕ) (endian : Endian) (spot : Spot) (x : Val × Spot) → IsBytes spot.left → (signature_value_at endian spot >>= λ y. Ok (Val.text basics.Signature (texts_of y.0), y.1)) ≡ Ok x
    → Took depth endian (Ty.basic basics.Signature) spot x
signature_took depth endian spot x fits e =
    let a = bind_ok (signature_value_at endian spot) (λ y. Ok (Val.text basics.Signature (texts_of y.0), y.1)) x e in
    let got = signature_taken endian spot a.0 fits a.1 in
    subst (λ (y : Val × Spot). Took depth endian (Ty.basic basics.Signature) spot y) (value_is (Val.text basics.Signature (texts_of a.0.0), a.0.1) x a.2)
    (record { fits = (refl, (a.0.0, got.1, refl)); short = refl; takes = got.0 })

pub basic_took : (depth : ℕ) (endian : Endian) (b : BasicType) (spot : Spot) (x : Val × Spot) → IsBytes spot.left → basic_at endian b spot ≡ Ok x → Took depth endian (Ty.basic b) spot x
unfolding basic_at basic_number_at
basic_took depth endian basics.Byte spot x fits e = plain_took depth endian basics.Byte spot x refl fits e
basic_took depth endian basics.Boolean spot x fits e = boolean_took depth endian spot x fits e
basic_took depth endian basics.Int16 spot x fits e = plain_took depth endian basics.Int16 spot x refl fits e
basic_took depth endian basics.Uint16 spot x fits e = plain_took depth endian basics.Uint16 spot x refl fits e
basic_took depth endian basics.Int32 spot x fits e = plain_took depth endian basics.Int32 spot x refl fits e
basic_took depth endian basics.Uint32 spot x fits e = plain_took depth endian basics.Uint32 spot x refl fits e
basic_took depth endian basics.Int64 spot x fits e = plain_took depth endian basics.Int64 spot x refl fits e
basic_took depth endian basics.Uint64 spot x fits e = plain_took depth endian basics.Uint64 spot x refl fits e
basic_took depth endian basics.Double spot x fits e = plain_took depth endian basics.Double spot x refl fits e
basic_took depth endian basics.UnixFd spot x fits e = plain_took depth endian basics.UnixFd spot x refl fits e
basic_took depth endian basics.String spot x fits e = string_took depth endian spot x fits e
basic_took depth endian basics.ObjectPath spot x fits e = path_took depth endian spot x fits e
basic_took depth endian basics.Signature spot x fits e = signature_took depth endian spot x fits e
