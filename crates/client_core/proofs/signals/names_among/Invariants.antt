-- The names read so far, followed by those of the remaining texts, are all names.
use Rattle.std.proofs.Common.{◌≡◌, drop}
use Rattle.dbus_types.specs.ValueViews.{each_as}
use Rattle.call_arguments.specs.declared.values.ElementType.TheVariants as element
use Rattle.call_arguments.specs.Arguments.{all_in, type_of_element}
use Rattle.client_core.specs.Signals.{name_at}
use Rattle.client_core.proofs.ReplyLemmas.{followed}
use Rattle.client_core.proofs.signals.names_among.Given as goal

abbrev pub invariant-loop-text : goal.invariant-loop-text
invariant-loop-text l =
    followed l.names.items (all_in name_at (each_as (type_of_element element.Text) (drop l.text-index l.texts)))
    ≡ all_in name_at (each_as (type_of_element element.Text) l.texts)
