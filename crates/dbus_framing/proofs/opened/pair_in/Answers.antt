-- The two fields of a header field are its code and its value.
use Rattle.std.proofs.Common.{◌≡◌, Option, Some, None, option_map, refl, sym, ap}
use Rattle.dbus_types.specs.declared.complete_type.BasicType.TheVariants.{Byte}
use Rattle.dbus_types.specs.declared.value.Value.{Value}
use Rattle.dbus_types.specs.Types.{Ty}
use Rattle.dbus_types.specs.Values.{Val, Vals}
use Rattle.dbus_types.specs.ValueViews.{value_as, value_of, AreTwo}
use Rattle.dbus_framing.specs.Headers.{pair_in, field_type}
use Rattle.dbus_framing.proofs.opened.pair_in.Goals as goal

no_pair : (tree : Val) → ((v w : Val) → tree ≡ Val.struct (Vals.more v (Vals.more w Vals.end)) → ⊥) → None ≡ pair_in tree
no_pair (Val.struct Vals.end) other = refl
no_pair (Val.struct (Vals.more v Vals.end)) other = refl
no_pair (Val.struct (Vals.more v (Vals.more w Vals.end))) other = absurd (other v w refl)
no_pair (Val.struct (Vals.more v (Vals.more w (Vals.more x vs)))) other = refl
no_pair (Val.number b n) other = refl
no_pair (Val.text b bytes) other = refl
no_pair (Val.variant v) other = refl
no_pair (Val.array t vs) other = refl
no_pair (Val.bytes bytes) other = refl
no_pair (Val.entry k v) other = refl

pair_by : (value : Value) (two : Option (Value × Value)) → AreTwo value two → option_map (λ it. (value_as (Ty.basic Byte) it.0, value_of it.1)) two ≡ pair_in (value_as field_type value)
pair_by value None other = no_pair (value_as field_type value) (other field_type)
pair_by value (Some two) fields = ap pair_in (sym (fields field_type))

pub returns : goal.returns
returns c = pair_by c.args.value c.into_two.result c.into_two.ensures
