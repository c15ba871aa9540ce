-- What comes after the texts of the types that are left comes after those of all.
use Rattle.std.proofs.Common.{◌≡◌, drop}
use Rattle.dbus_types.specs.Types.{texts_of}
use Rattle.dbus_types.specs.Views.{types_of}
use Rattle.call_arguments.specs.Fronts.{behind}
use Rattle.call_arguments.proofs.arguments.+texts.Given as goal

abbrev pub invariant-behind_types-loop-each : goal.invariant-behind_types-loop-each
invariant-behind_types-loop-each l = behind (texts_of (types_of (drop l.each-index l.types))) l.rest ≡ behind (texts_of (types_of l.types)) l.text
