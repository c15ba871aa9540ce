use Rattle.std.proofs.Common.{sym}
use Rattle.dbus_types.specs.Views.{type_of}
use Rattle.dbus_types.proofs.KnownLemmas.{core_next, core_over, wraps_next}
use Rattle.dbus_types.proofs.known.core_of.Goals as goal

pub loop-only-preserved : goal.loop-only-preserved
loop-only-preserved c = core_next (type_of c.loop-only.core.now) (type_of c.in-Some.only.now) _ (sym c.in-Some.ensures) c.loop-only.invariant

pub loop-only-smaller : goal.loop-only-smaller
loop-only-smaller c = wraps_next (type_of c.loop-only.core.now) (type_of c.in-Some.only.now) (sym c.in-Some.ensures)

pub returns : goal.returns
returns c = core_over (type_of c.loop-only.core.now) _ (sym c.in_default.ensures) c.loop-only.invariant
