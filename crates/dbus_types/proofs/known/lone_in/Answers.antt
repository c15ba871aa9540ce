use Rattle.std.proofs.Common.{sym, ◌∙◌}
use Rattle.std.proofs.lemmas.Bool.{eqb-false}
use Rattle.dbus_types.proofs.KnownLemmas.{lone_many}
use Rattle.dbus_types.proofs.known.lone_in.Goals as goal

pub returns-then-not-is_empty : goal.returns-then-not-is_empty
returns-then-not-is_empty c = lone_many _ _ _ _ c.in_ok-only.ensures.cases.0 (eqb-false _ _ (sym c.is_empty.ensures ∙ c.if-not-is_empty.true))
