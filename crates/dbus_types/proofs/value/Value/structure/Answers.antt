-- The given fields are those of the new value.
use Rattle.std.proofs.Common.{◌≡◌, List, [], ◌∷◌, rules, refl, sym, ap, ◌∙◌, Vec, Global, arith}
use Rattle.dbus_types.specs.declared.value.Value.{Value}
use Rattle.dbus_types.specs.ValueViews.{if_not_two}
use Rattle.dbus_types.proofs.ValueViews.{vector_fields, pair_fields, kept_fields}
use Rattle.dbus_types.proofs.value.Value.structure.Goals as goal

pub returns-then-len-eq2 : goal.returns-then-len-eq2
returns-then-len-eq2 c =
    let same : c.args.fields.items ≡ c.in-Some-pop.first ∷ c.in-Some.second ∷ [] = search rules in
    (refl, pair_fields _ c.in_ok-pair.pair _ refl (same ∙ sym c.in_ok-pair.ensures.ok))

pub returns : goal.returns
returns c =
    (refl, vector_fields _ c.in_ok-held.held _ refl (kept_fields c.args.fields.items (λ two. c.if-len-eq2.false (omega (arith, two))) ∙ ap if_not_two (sym c.shrink_to_fit.ensures.items ∙ ap (λ (vs : Vec Value Global). vs.items) (sym c.in_ok-held.ensures.ok))))
