-- What `marshal` returns, and two laws of the relation.
use Rattle.std.proofs.Common.{◌≡◌, ℕ, ◌%◌, Bool, true, false, List, [], ◌++◌, length, Result, Ok, Err, sym, ap, subst, ◌∙◌, arith, append-nil}
use Rattle.dbus_types.specs.declared.endian.Endian.{Endian}
use Rattle.dbus_types.specs.Types.{Tys, is_signature}
use Rattle.dbus_types.specs.Values.{Vals, tys_of}
use Rattle.dbus_marshal.specs.Limits.{depth_limit}
use Rattle.dbus_marshal.specs.declared.refused.ValueFault.{ValueFault}
use Rattle.dbus_marshal.specs.declared.refused.MarshalFault.{MarshalFault}
use Rattle.dbus_marshal.specs.declared.refused.MarshalFault.TheVariants.{TooLong, OutOfMemory}
use Rattle.dbus_marshal.specs.Writing.{Writes}
use Rattle.dbus_marshal.specs.Wire.{behind}
use Rattle.dbus_marshal.specs.Fitting.{HaveSpelling}
use Rattle.dbus_marshal.specs.Marshals.{AreSpelled}
use Rattle.dbus_marshal.specs.Spelling.{all_spelled, are_short}
use Rattle.dbus_marshal.specs.Unmarshal.{Spot, fields_by, value_at, values_at}
use Rattle.dbus_marshal.proofs.Relation.{all_is, all_spelled_marshal}
use Rattle.dbus_marshal.proofs.AgainBasics.{at}
use Rattle.dbus_marshal.proofs.AgainValues.{readers_again, fields_again, signature_solid}
use Rattle.dbus_marshal.proofs.UnmarshalLaws.{values_only}

-- the first byte is at the position
first_place : (place : ℕ) (start : List ℕ) → start ≡ [] → behind (place % 8) (length start) ≡ place % 8
first_place place start none = ap (λ (l : List ℕ). behind (place % 8) (length l)) none ∙ omega arith

pub wrote_all : (endian : Endian) (vs : Vals) (place : ℕ) (start out : List ℕ) → start ≡ [] → out ≡ start ++ all_spelled endian vs (behind (place % 8) (length start)) → out ≡ all_spelled endian vs (place % 8)
wrote_all endian vs place start out none is =
    is ∙ ap (λ (l : List ℕ). l ++ all_spelled endian vs (behind (place % 8) (length start))) none ∙ ap (all_spelled endian vs) (first_place place start none)

pub wrote_short : (endian : Endian) (vs : Vals) (place : ℕ) (start : List ℕ) (test : Bool) → start ≡ [] → are_short endian vs (behind (place % 8) (length start)) ≡ test → are_short endian vs (place % 8) ≡ test
wrote_short endian vs place start test none is = ap (are_short endian vs) (sym (first_place place start none)) ∙ is

abbrev refused : {A : Type 0} → MarshalFault → Result A MarshalFault
refused e = Err e

pub too_long : {A : Type 0} (e : MarshalFault) (bytes : List ℕ) (short : Bool) (old new : List ℕ) → Writes {X = Unit {0}} (Err e) bytes short old new → refused {A = A} e ≡ refused {A = A} TooLong → short ≡ false
too_long TooLong bytes short old new w same = w
too_long OutOfMemory bytes short old new w same = absurd cc

pub marshal_spelled : (endian : Endian) (vs : Vals) (place : ℕ) (bytes : List ℕ) → HaveSpelling vs → bytes ≡ all_spelled endian vs (place % 8) → are_short endian vs (place % 8) ≡ true
    → AreSpelled endian place (tys_of vs) vs bytes
marshal_spelled endian vs place bytes fits is short =
    subst (λ (bs : List ℕ). AreSpelled endian place (tys_of vs) vs bs) (sym is) (all_spelled_marshal depth_limit endian (place % 8) (tys_of vs) vs fits short)

pub marshal_again : (endian : Endian) (vs : Vals) (place : ℕ) (bytes : List ℕ) → is_signature (tys_of vs) ≡ true → AreSpelled endian place (tys_of vs) vs bytes
    → values_at endian (tys_of vs) (at (place % 8) bytes) ≡ Ok vs
marshal_again endian vs place bytes valid m = values_only endian (tys_of vs) (place % 8) bytes vs (omega arith) valid m

read_on : (endian : Endian) (place : ℕ) (ts : Tys) (vs : Vals) (bytes rest : List ℕ) → is_signature ts ≡ true → AreSpelled endian place ts vs bytes
    → fields_by (value_at depth_limit endian) ts (at (place % 8) (bytes ++ rest)) ≡ Ok (vs, at (behind (place % 8) (length (all_spelled endian vs (place % 8)))) rest)
read_on endian place ts vs bytes rest valid m =
    let is = all_is depth_limit endian (place % 8) ts vs bytes m in
    ap (λ (bs : List ℕ). fields_by (value_at depth_limit endian) ts (at (place % 8) (bs ++ rest))) is.is
    ∙ fields_again depth_limit endian (value_at depth_limit endian) ts vs (place % 8) rest (readers_again depth_limit endian) (omega arith) (signature_solid ts valid) is.fits is.short

abbrev both_done : Vals × Spot → Result (Vals × Spot) ValueFault
both_done x = Ok x

both_is : (x y : Vals × Spot) → both_done x ≡ both_done y → x ≡ y
both_is x y e = cc

pub goes_on : (endian : Endian) (place : ℕ) (ts : Tys) (vs ws : Vals) (bytes rest : List ℕ) → is_signature ts ≡ true → AreSpelled endian place ts vs bytes → AreSpelled endian place ts ws (bytes ++ rest)
    → (vs ≡ ws) × (rest ≡ [])
goes_on endian place ts vs ws bytes rest valid m n =
    let one = read_on endian place ts vs bytes rest valid m in
    let other = read_on endian place ts ws (bytes ++ rest) [] valid n in
    let whole = ap (λ (bs : List ℕ). fields_by (value_at depth_limit endian) ts (at (place % 8) bs)) (append-nil (bytes ++ rest)) in
    let same = both_is (vs, at (behind (place % 8) (length (all_spelled endian vs (place % 8)))) rest) (ws, at (behind (place % 8) (length (all_spelled endian ws (place % 8)))) []) (sym one ∙ sym whole ∙ other) in
    (ap (λ (x : Vals × Spot). x.0) same, ap (λ (x : Vals × Spot). x.1.left) same)
