-- The objects read so far, followed by those of the remaining paths, are all objects.
use Rattle.std.proofs.Common.{◌≡◌, drop}
use Rattle.dbus_types.specs.ValueViews.{each_as}
use Rattle.call_arguments.specs.declared.values.ElementType.TheVariants as element
use Rattle.call_arguments.specs.Arguments.{type_of_element, all_in, object_in}
use Rattle.call_arguments.proofs.ValueLemmas.{followed}
use Rattle.call_arguments.proofs.meanings.objects_among.Given as goal

abbrev pub invariant-loop-path : goal.invariant-loop-path
invariant-loop-path l =
    followed l.objects.items (all_in object_in (each_as (type_of_element element.Path) (drop l.path-index l.paths)))
    ≡ all_in object_in (each_as (type_of_element element.Path) l.paths)
