-- The properties read so far, followed by those of the remaining entries, are all properties.
use Rattle.std.proofs.Common.{◌≡◌, drop}
use Rattle.dbus_types.specs.ValueViews.{each_as}
use Rattle.call_arguments.specs.declared.values.ElementType.TheVariants as element
use Rattle.call_arguments.specs.Arguments.{all_in, type_of_element}
use Rattle.client_core.specs.Replies.{property_at}
use Rattle.client_core.proofs.ReplyLemmas.{followed}
use Rattle.client_core.proofs.properties.properties_among.Given as goal

abbrev pub invariant-loop-entry : goal.invariant-loop-entry
invariant-loop-entry l =
    followed l.properties.items (all_in property_at (each_as (type_of_element element.Property) (drop l.entry-index l.entries)))
    ≡ all_in property_at (each_as (type_of_element element.Property) l.entries)
