-- The pairs read so far, followed by those of the remaining entries, are all pairs.
use Rattle.std.proofs.Common.{◌≡◌, drop}
use Rattle.dbus_types.specs.ValueViews.{each_as}
use Rattle.call_arguments.specs.declared.values.ElementType.TheVariants as element
use Rattle.call_arguments.specs.Arguments.{type_of_element, all_in, text_pair_in}
use Rattle.call_arguments.proofs.ValueLemmas.{followed}
use Rattle.call_arguments.proofs.meanings.text_pairs_among.Given as goal

abbrev pub invariant-loop-entry : goal.invariant-loop-entry
invariant-loop-entry l =
    followed l.pairs.items (all_in text_pair_in (each_as (type_of_element element.TextPair) (drop l.entry-index l.entries)))
    ≡ all_in text_pair_in (each_as (type_of_element element.TextPair) l.entries)
