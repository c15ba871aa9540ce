-- What was read, and what is still read, is what the codes list.
use Rattle.std.proofs.Common.{◌≡◌, List, sym, ap, ◌∙◌, arith, length, ◌-◌}
use Rattle.std.proofs.lemmas.Bool.{eqb-true, eqb-false}
use Rattle.std.proofs.lemmas.Result.{err_from_is_err_and}
use Rattle.dbus_types.specs.declared.complete_type.CompleteType.{CompleteType}
use Rattle.dbus_types.specs.Types.{nesting_limit}
use Rattle.dbus_types.specs.Views.{type_of, types_of}
use Rattle.dbus_types.specs.Signatures.{type_at, types_by, types_then}
use Rattle.dbus_types.proofs.Views.{types_of-push}
use Rattle.dbus_types.proofs.SignatureReading.{types_behind-end, types_none, types_next, types_fault}
use Rattle.dbus_types.proofs.signature_reading.read_types.Goals as goal

pub loop-init : goal.loop-init
loop-init c =
    let whole : length c.args.codes.now - 0 ≡ length c.args.codes.now = omega arith in
    (rw (c.in_ok-types.ensures.items, whole) (types_behind-end (types_by (type_at nesting_limit nesting_limit) (length c.args.codes.now) c.args.codes.now)), omega arith)

pub returns-then-is_empty : goal.returns-then-is_empty
returns-then-is_empty c = types_none (type_at nesting_limit nesting_limit) _ _ c.loop.left.now _ (eqb-true _ _ (sym c.is_empty.ensures ∙ c.if-is_empty.true)) c.loop.invariant.0

pub returns-in_err-next : goal.returns-in_err-next
returns-in_err-next c =
    let p = err_from_is_err_and c.from_residual-in_err-next.result c.from_residual-in_err-next.ensures.1 in rw (p.1, p.2)
    (types_fault c.in_err-next.field-0.0 (type_at nesting_limit nesting_limit) _ _ _ c.loop.left.now _ c.loop-test.true (eqb-false _ _ (sym c.is_empty.ensures ∙ c.if-is_empty.false)) c.in_err-next.ensures.reads c.loop.invariant.0)

pub loop-preserved : goal.loop-preserved
loop-preserved c = (
  types_next (type_at nesting_limit nesting_limit) (types_of c.loop.types.items) _ _ c.loop.left.now (type_of c.in_ok-next.next) c.in_ok-next.rest.now (types_of c.push.new.self.items) _
      c.loop-test.true (eqb-false _ _ (sym c.is_empty.ensures ∙ c.if-is_empty.false)) c.in_ok-next.ensures.reads
      (λ us. ap (λ (ts : List CompleteType). types_then (types_of ts) us) c.in_ok-push.ensures.items ∙ types_of-push c.loop.types.items c.in_ok-next.next us) c.loop.invariant.0,
  omega (arith, c.in_ok-next.ensures.shorter, c.loop.invariant.1),
)

pub returns : goal.returns
returns c = types_none (type_at nesting_limit nesting_limit) _ _ c.loop.left.now _ (omega (arith, c.loop.invariant.1, c.loop-test.false)) c.loop.invariant.0
