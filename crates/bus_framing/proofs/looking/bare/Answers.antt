-- By the header fields.
use Rattle.std.proofs.Common.{◌≡◌, Option, option_map, subst, sym, ap, ◌∙◌}
use Rattle.std.specs.Prelude.{slice_index}
use Rattle.dbus_framing.specs.declared.header.Header.{Header}
use Rattle.dbus_framing.specs.HeaderViews.{fields_of}
use Rattle.dbus_framing.specs.Messages.{fields_at}
use Rattle.bus_framing.specs.Looks.{Bare, headed, if_kept}
use Rattle.bus_framing.proofs.LookLemmas.{bare_none, bare_lacks, bare_kept}
use Rattle.bus_framing.proofs.looking.bare.Goals as goal

pub returns-in_default : goal.returns-in_default
returns-in_default c =
    bare_none c.args.endian c.args.bytes.now c.args.size c.args.fault
    (subst (λ (found : Option Header). option_map fields_of found ≡ fields_at c.args.endian c.args.bytes.now) c.in_default.is c.in_ok-header.ensures)

pub returns-then-not-has_needed : goal.returns-then-not-has_needed
returns-then-not-has_needed c =
    bare_lacks c.args.endian c.args.bytes.now c.args.size c.args.fault (fields_of c.in-Some.header)
    (subst (λ (found : Option Header). option_map fields_of found ≡ fields_at c.args.endian c.args.bytes.now) c.in-Some.is c.in_ok-header.ensures)
    (sym c.has_needed.ensures ∙ c.if-not-has_needed.true)

pub returns : goal.returns
returns c =
    c.if_kept.ensures
    ∙ ap (λ (it : Bare). if_kept (slice_index c.args.bytes.now 1) c.args.size (headed it)) c.headed_of-headed.ensures
    ∙ bare_kept c.args.endian c.args.bytes.now c.args.size c.args.fault (fields_of c.in-Some.header)
    (subst (λ (found : Option Header). option_map fields_of found ≡ fields_at c.args.endian c.args.bytes.now) c.in-Some.is c.in_ok-header.ensures)
    (sym c.has_needed.ensures ∙ c.if-not-has_needed.false)
