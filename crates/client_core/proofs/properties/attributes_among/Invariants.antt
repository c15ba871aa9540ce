-- The attributes read so far, followed by those of the remaining entries, are all attributes.
use Rattle.std.proofs.Common.{◌≡◌, drop}
use Rattle.dbus_types.specs.ValueViews.{each_as}
use Rattle.call_arguments.specs.declared.values.ElementType.TheVariants as element
use Rattle.call_arguments.specs.Arguments.{all_in, type_of_element}
use Rattle.client_core.specs.Replies.{attribute_in}
use Rattle.client_core.proofs.ReplyLemmas.{followed}
use Rattle.client_core.proofs.properties.attributes_among.Given as goal

abbrev pub invariant-loop-entry : goal.invariant-loop-entry
invariant-loop-entry l =
    followed l.attributes.items (all_in attribute_in (each_as (type_of_element element.TextPair) (drop l.entry-index l.entries)))
    ≡ all_in attribute_in (each_as (type_of_element element.TextPair) l.entries)
