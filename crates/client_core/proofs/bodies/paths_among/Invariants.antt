-- The paths read so far, followed by the remaining ones, are all paths.
use Rattle.std.proofs.Common.{◌≡◌, drop}
use Rattle.dbus_types.specs.declared.complete_type.BasicType.TheVariants as basics
use Rattle.dbus_types.specs.Types.{Ty}
use Rattle.dbus_types.specs.ValueViews.{each_as}
use Rattle.dbus_framing.specs.Headers.{path_in}
use Rattle.call_arguments.specs.Arguments.{all_in}
use Rattle.client_core.proofs.ReplyLemmas.{followed}
use Rattle.client_core.proofs.bodies.paths_among.Given as goal

abbrev pub invariant-loop-element : goal.invariant-loop-element
invariant-loop-element l =
    followed l.paths.items (all_in path_in (each_as (Ty.basic basics.ObjectPath) (drop l.element-index l.elements)))
    ≡ all_in path_in (each_as (Ty.basic basics.ObjectPath) l.elements)
