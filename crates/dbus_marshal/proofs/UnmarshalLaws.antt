-- What `unmarshal` returns: the values that the bytes spell, or the first fault from the left.
use Rattle.std.proofs.Common.{◌≡◌, ℕ, ◌+◌, ◌*◌, ◌%◌, ◌<◌, ◌≤◌, Bool, true, cond, List, [], ◌++◌, length, Result, Ok, Err, refl, sym, ap, subst, ◌∙◌, arith, append-nil, inl, inr, Vec, Global}
use Rattle.std.specs.Prelude.{if◌then◌else◌, nat_lt, IfOk}
use Rattle.std.proofs.lemmas.Bool.{cases_lt, lt-ltb, le-ltb}
use Rattle.std.proofs.lemmas.List.{nil_from_length}
use Rattle.dbus_types.specs.declared.endian.Endian.{Endian}
use Rattle.dbus_types.specs.Types.{Tys, is_signature, texts_of}
use Rattle.dbus_types.specs.Values.{Vals, tys_of}
use Rattle.dbus_types.specs.ValueViews.{values_of}
use Rattle.dbus_types.specs.declared.value.Value.{Value}
use Rattle.dbus_marshal.specs.Limits.{depth_limit}
use Rattle.dbus_marshal.specs.declared.refused.ValueFault.{ValueFault}
use Rattle.dbus_marshal.specs.declared.refused.ValueFault.TheVariants.{Rest}
use Rattle.dbus_marshal.specs.Counting.{counts}
use Rattle.dbus_marshal.specs.Held.{all_parts}
use Rattle.dbus_marshal.specs.Marshals.{AllMarshal, AreSpelled}
use Rattle.dbus_marshal.specs.Spelling.{all_spelled}
use Rattle.dbus_marshal.specs.Unmarshal.{Reads, Spot, fields_by, value_at, values_at}
use Rattle.dbus_marshal.proofs.Taking.{IsBytes, bind_ok}
use Rattle.dbus_marshal.proofs.TakenValues.{takers, fields_took, TookAll}
use Rattle.dbus_marshal.specs.Fitting.{AllFit, HaveSpelling}
use Rattle.dbus_marshal.proofs.Relation.{all_is, all_fit_types, all_spelled_marshal}
use Rattle.dbus_marshal.proofs.AgainBasics.{at}
use Rattle.dbus_marshal.proofs.AgainValues.{readers_again, fields_again, signature_solid}
use Rattle.dbus_marshal.proofs.CountLemmas.{few_values}
use Rattle.dbus_marshal.proofs.HeldLemmas.{all_plain_few}

abbrev vals_done : Vals → Result Vals ValueFault
vals_done x = Ok x

vals_is : (x y : Vals) → vals_done x ≡ vals_done y → x ≡ y
vals_is x y e = cc

whole : (endian : Endian) (ts : Tys) (place : ℕ) (bytes : List ℕ) (x : Vals × Spot) → TookAll depth_limit endian ts (at place bytes) x → length x.1.left ≡ 0 → AllMarshal depth_limit endian place ts x.0 bytes
whole endian ts place bytes x took none =
    let is : bytes ≡ all_spelled endian x.0 place = took.takes.parts ∙ ap (λ (r : List ℕ). all_spelled endian x.0 place ++ r) (nil_from_length x.1.left none) ∙ append-nil (all_spelled endian x.0 place) in
    subst (λ (bs : List ℕ). AllMarshal depth_limit endian place ts x.0 bs) (sym is) (all_spelled_marshal depth_limit endian place ts x.0 took.fits took.short)

-- what is read is spelled that way
pub values_found : (endian : Endian) (ts : Tys) (place : ℕ) (bytes : List ℕ) (vs : Vals) → place < 8 → IsBytes bytes → values_at endian ts (at place bytes) ≡ Ok vs → AllMarshal depth_limit endian place ts vs bytes
unfolding values_at
values_found endian ts place bytes vs below fits e =
    let a = bind_ok (fields_by (value_at depth_limit endian) ts (at place bytes)) (λ ws. if nat_lt 0 (length ws.1.left) then Err Rest else Ok ws.0) vs e in
    let took = fields_took depth_limit endian (value_at depth_limit endian) ts (at place bytes) a.0 (takers depth_limit endian) fits below a.1 in
    elim (cases_lt 0 (length a.0.1.left)) [
      | inl lt ↦
          let none : Err Rest ≡ vals_done vs = subst (λ (b : Bool). cond b (Err Rest) (Ok a.0.0) ≡ Ok vs) (lt-ltb _ _ lt) a.2 in
          absurd cc
      | inr le ↦
          let some : vals_done a.0.0 ≡ vals_done vs = subst (λ (b : Bool). cond b (Err Rest) (Ok a.0.0) ≡ Ok vs) (le-ltb _ _ le) a.2 in
          subst (λ (ws : Vals). AllMarshal depth_limit endian place ts ws bytes) (vals_is a.0.0 vs some) (whole endian ts place bytes a.0 took (omega arith))
    ]

-- what is spelled that way is read
pub values_only : (endian : Endian) (ts : Tys) (place : ℕ) (bytes : List ℕ) (vs : Vals) → place < 8 → is_signature ts ≡ true → AllMarshal depth_limit endian place ts vs bytes → values_at endian ts (at place bytes) ≡ Ok vs
unfolding values_at
values_only endian ts place bytes vs below valid m =
    let is = all_is depth_limit endian place ts vs bytes m in
    let read = fields_again depth_limit endian (value_at depth_limit endian) ts vs place [] (readers_again depth_limit endian) below (signature_solid ts valid) is.fits is.short in
    ap (λ (bs : List ℕ). values_at endian ts (at place bs)) (is.is ∙ sym (append-nil (all_spelled endian vs place))) ∙ rw read refl

-- the number of values is bounded by that of the bytes
pub values_few : (endian : Endian) (ts : Tys) (place : ℕ) (bytes : List ℕ) (vs : Vals) → is_signature ts ≡ true → AllMarshal depth_limit endian place ts vs bytes → counts vs ≤ (depth_limit + 1) * length bytes
values_few endian ts place bytes vs valid m =
    let is = all_is depth_limit endian place ts vs bytes m in
    subst (λ (bs : List ℕ). counts vs ≤ (depth_limit + 1) * length bs) (sym is.is) (few_values depth_limit endian ts vs place (signature_solid ts valid) is.fits)

-- and so are the parts of memory that they take
pub values_held : (endian : Endian) (ts : Tys) (place : ℕ) (bytes : List ℕ) (vs : Vals) → is_signature ts ≡ true → AllMarshal depth_limit endian place ts vs bytes → all_parts vs ≤ 2 * length bytes + length (texts_of ts)
values_held endian ts place bytes vs valid m =
    let is = all_is depth_limit endian place ts vs bytes m in
    subst (λ (bs : List ℕ). all_parts vs ≤ 2 * length bs + length (texts_of ts)) (sym is.is) (all_plain_few depth_limit endian ts vs place (signature_solid ts valid) is.fits)

-- ---- the result of a call

pub types_same : (ts us : Tys) (endian : Endian) (place : ℕ) (bytes : List ℕ) (result : Result (Vec Value Global) ValueFault) → ts ≡ us
    → Reads (λ x. values_of x.items) result (values_at endian ts (at (place % 8) bytes)) → Reads (λ x. values_of x.items) result (values_at endian us (at (place % 8) bytes))
types_same ts us endian place bytes result same reads = subst (λ (ws : Tys). Reads (λ x. values_of x.items) result (values_at endian ws (at (place % 8) bytes))) same reads

pub answer_found : (result : Result (Vec Value Global) ValueFault) (endian : Endian) (ts : Tys) (place : ℕ) (bytes : List ℕ) → IsBytes bytes
    → Reads (λ x. values_of x.items) result (values_at endian ts (at (place % 8) bytes)) → IfOk result (λ x. AreSpelled endian place ts (values_of x.items) bytes)
answer_found (Ok x) endian ts place bytes fits reads = values_found endian ts (place % 8) bytes (values_of x.items) (omega arith) fits reads
answer_found (Err e) endian ts place bytes fits reads = tt

pub answer_only : (result : Result (Vec Value Global) ValueFault) (endian : Endian) (ts : Tys) (place : ℕ) (bytes : List ℕ) (vs : Vals) → is_signature ts ≡ true → AreSpelled endian place ts vs bytes
    → Reads (λ x. values_of x.items) result (values_at endian ts (at (place % 8) bytes)) → Reads (λ x. values_of x.items) result (Ok vs)
answer_only result endian ts place bytes vs valid m reads =
    subst (λ (read : Result Vals ValueFault). Reads (λ x. values_of x.items) result read) (values_only endian ts (place % 8) bytes vs (omega arith) valid m) reads

pub answer_few : (result : Result (Vec Value Global) ValueFault) (endian : Endian) (ts : Tys) (place : ℕ) (bytes : List ℕ) → is_signature ts ≡ true → IsBytes bytes
    → Reads (λ x. values_of x.items) result (values_at endian ts (at (place % 8) bytes)) → IfOk result (λ x. counts (values_of x.items) ≤ (depth_limit + 1) * length bytes)
answer_few (Ok x) endian ts place bytes valid fits reads =
    values_few endian ts (place % 8) bytes (values_of x.items) valid (values_found endian ts (place % 8) bytes (values_of x.items) (omega arith) fits reads)
answer_few (Err e) endian ts place bytes valid fits reads = tt

pub answer_held : (result : Result (Vec Value Global) ValueFault) (endian : Endian) (ts : Tys) (place : ℕ) (bytes : List ℕ) → is_signature ts ≡ true → IsBytes bytes
    → Reads (λ x. values_of x.items) result (values_at endian ts (at (place % 8) bytes)) → IfOk result (λ x. all_parts (values_of x.items) ≤ 2 * length bytes + length (texts_of ts))
answer_held (Ok x) endian ts place bytes valid fits reads =
    values_held endian ts (place % 8) bytes (values_of x.items) valid (values_found endian ts (place % 8) bytes (values_of x.items) (omega arith) fits reads)
answer_held (Err e) endian ts place bytes valid fits reads = tt

pub answer_types : (result : Result (Vec Value Global) ValueFault) (endian : Endian) (ts : Tys) (place : ℕ) (bytes : List ℕ) → IsBytes bytes
    → Reads (λ x. values_of x.items) result (values_at endian ts (at (place % 8) bytes)) → IfOk result (λ x. tys_of (values_of x.items) ≡ ts)
answer_types (Ok x) endian ts place bytes fits reads =
    all_fit_types depth_limit ts (values_of x.items) (all_is depth_limit endian (place % 8) ts (values_of x.items) bytes (values_found endian ts (place % 8) bytes (values_of x.items) (omega arith) fits reads)).fits
answer_types (Err e) endian ts place bytes fits reads = tt

pub answer_fits : (result : Result (Vec Value Global) ValueFault) (endian : Endian) (ts : Tys) (place : ℕ) (bytes : List ℕ) → IsBytes bytes
    → Reads (λ x. values_of x.items) result (values_at endian ts (at (place % 8) bytes)) → IfOk result (λ x. HaveSpelling (values_of x.items))
answer_fits (Ok x) endian ts place bytes fits reads =
    let fit = (all_is depth_limit endian (place % 8) ts (values_of x.items) bytes (values_found endian ts (place % 8) bytes (values_of x.items) (omega arith) fits reads)).fits in
    subst (λ (us : Tys). AllFit depth_limit us (values_of x.items)) (sym (all_fit_types depth_limit ts (values_of x.items) fit)) fit
answer_fits (Err e) endian ts place bytes fits reads = tt
