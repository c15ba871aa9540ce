-- By the header fields, and by the body.
use Rattle.std.proofs.Common.{◌≡◌, Option, option_map, IfOk, subst, sym, ◌∙◌}
use Rattle.dbus_framing.specs.Messages.{parts_of}
use Rattle.dbus_framing.specs.declared.header.Header.{Header}
use Rattle.dbus_framing.specs.HeaderViews.{fields_of}
use Rattle.dbus_framing.specs.Messages.{fields_at}
use Rattle.bus_framing.specs.Looks.{Look, look_of}
use Rattle.bus_framing.proofs.LookLemmas.{no_header, not_needed, read_bare, read_whole}
use Rattle.bus_framing.proofs.looking.whole.Goals as goal

pub returns-in_default : goal.returns-in_default
returns-in_default c =
    no_header c.args.endian c.args.bytes.now
    (subst (λ (found : Option Header). option_map fields_of found ≡ fields_at c.args.endian c.args.bytes.now) c.in_default.is c.in_ok-header.ensures)

pub returns-then-not-has_needed : goal.returns-then-not-has_needed
returns-then-not-has_needed c =
    not_needed c.args.endian c.args.bytes.now (fields_of c.in-Some.header)
    (subst (λ (found : Option Header). option_map fields_of found ≡ fields_at c.args.endian c.args.bytes.now) c.in-Some.is c.in_ok-header.ensures)
    (sym c.has_needed.ensures ∙ c.if-not-has_needed.true)

pub returns-in-Ok : goal.returns-in-Ok
returns-in-Ok c =
    c.if_kept.ensures
    ∙ read_whole c.args.endian c.args.bytes.now (fields_of c.in-Some.header) (parts_of c.in-Ok.message)
    (subst (λ (found : Option Header). option_map fields_of found ≡ fields_at c.args.endian c.args.bytes.now) c.in-Some.is c.in_ok-header.ensures)
    (sym c.has_needed.ensures ∙ c.if-not-has_needed.false) c.in-Ok.ensures

pub returns-in-Err-Violation : goal.returns-in-Err-Violation
returns-in-Err-Violation c =
    subst (λ (look : Look). IfOk c.bare.result (λ it. look_of it ≡ look))
    (read_bare c.args.endian c.args.bytes.now (fields_of c.in-Some.header) c.in-Err-Violation.field-0-0
    (subst (λ (found : Option Header). option_map fields_of found ≡ fields_at c.args.endian c.args.bytes.now) c.in-Some.is c.in_ok-header.ensures)
    (rw c.in-Err-Violation.field-0-is at c.in-Err-Violation.ensures))
    c.bare.ensures
