-- A struct's fields are what its vector or array contains.
use Rattle.std.proofs.Common.{sym, ap, ◌∙◌, Vec, Global}
use Rattle.dbus_types.specs.declared.value.Value.{Value}
use Rattle.dbus_types.specs.ValueViews.{is_struct, if_not_two}
use Rattle.dbus_types.proofs.ValueViews.{vector_fields, pair_fields}
use Rattle.dbus_types.proofs.value.Value.fields.Goals as goal

pub returns-in-Struct-clause-fields : goal.returns-in-Struct-clause-fields
returns-in-Struct-clause-fields c =
    (ap is_struct c.in-Struct.is, vector_fields _ c.in-Struct.fields _ c.in-Struct.is (c.unless_two.ensures ∙ ap if_not_two (c.as_slice.ensures.value ∙ ap (λ (vs : Vec Value Global). vs.items) c.deref.ensures)))

pub returns-in-Pair-clause-fields : goal.returns-in-Pair-clause-fields
returns-in-Pair-clause-fields c =
    (ap is_struct c.in-Pair.is, pair_fields _ c.in-Pair.fields _ c.in-Pair.is (c.as_slice-in-Pair.ensures ∙ c.deref-in-Pair.ensures))
