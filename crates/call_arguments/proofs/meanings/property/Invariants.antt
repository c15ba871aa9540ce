-- The value found so far, unless a remaining entry has one too, is the value found in all entries.
use Rattle.std.proofs.Common.{◌≡◌, drop, option_map}
use Rattle.std.specs.Option.{option_or}
use Rattle.dbus_types.specs.ValueViews.{each_as, value_of}
use Rattle.call_arguments.specs.declared.values.ElementType.TheVariants as element
use Rattle.call_arguments.specs.Arguments.{type_of_element, property}
use Rattle.call_arguments.proofs.meanings.property.Given as goal

abbrev pub invariant-loop-entry : goal.invariant-loop-entry
invariant-loop-entry l =
    option_or (property l.wanted (each_as (type_of_element element.Property) (drop l.entry-index l.entries))) (option_map (λ held. value_of held.now) l.found)
    ≡ property l.wanted (each_as (type_of_element element.Property) l.entries)
