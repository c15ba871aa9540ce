-- If there isn't exactly one value, none is returned.
use Rattle.std.proofs.Common.{◌≡◌, List, [], ◌∷◌, length, refl, None, arith}
use Rattle.dbus_types.specs.declared.value.Value.{Value}
use Rattle.dbus_types.specs.ValueViews.{values_of}
use Rattle.dbus_framing.specs.Headers.{one_of}
use Rattle.dbus_framing.proofs.opened.one_of.Goals as goal

not_one : (values : List Value) → (length values ≡ 1 → ⊥) → None ≡ one_of (values_of values)
not_one [] ne = refl
not_one (first ∷ []) ne = absurd (ne refl)
not_one (first ∷ second ∷ more) ne = refl

pub returns-then-len-ne1 : goal.returns-then-len-ne1
returns-then-len-ne1 c = not_one c.args.values.items (λ long. c.if-len-ne1.true (omega arith))
