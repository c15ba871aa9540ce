use Rattle.std.proofs.Common.{sym, ◌∙◌}
use Rattle.std.proofs.lemmas.Bool.{eqb-false}
use Rattle.dbus_marshal.proofs.ValueReading.{only_many}
use Rattle.dbus_marshal.proofs.values.only_of.Goals as goal

pub returns-then-not-is_empty : goal.returns-then-not-is_empty
returns-then-not-is_empty c = only_many _ _ _ c.in-Some.ensures.cases.0 (eqb-false _ _ (sym c.is_empty.ensures ∙ c.if-not-is_empty.true))
