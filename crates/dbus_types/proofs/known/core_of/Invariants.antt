-- Each turn removes one struct of one field.
use Rattle.std.proofs.Common.{◌≡◌}
use Rattle.dbus_types.specs.Views.{type_of}
use Rattle.dbus_types.specs.ValueViews.{core_of}
use Rattle.dbus_types.proofs.KnownLemmas.{wraps}
use Rattle.dbus_types.proofs.known.core_of.Given as goal

abbrev pub invariant-loop-only : goal.invariant-loop-only
invariant-loop-only l = core_of (type_of l.core) ≡ core_of (type_of l.known)

abbrev pub decreases-loop-only : goal.decreases-loop-only
decreases-loop-only l = wraps (type_of l.core)
