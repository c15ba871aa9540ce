-- Only a pair is a struct of two fields.
use Rattle.std.proofs.Common.{◌∙◌}
use Rattle.dbus_types.proofs.ValueViews.{pair_fields}
use Rattle.dbus_types.proofs.value.Value.into_two.Goals as goal

pub returns-in-Pair : goal.returns-in-Pair
returns-in-Pair c = pair_fields _ c.in-Pair.fields _ c.in-Pair.is (c.two_of.ensures ∙ c.into_inner.ensures)
