use Rattle.std.proofs.Common.{ap, sym, ◌∙◌}
use Rattle.dbus_types.specs.Types.{Ty}
use Rattle.dbus_types.specs.declared.complete_type.BasicType.TheVariants.{Byte}
use Rattle.dbus_types.specs.ValueViews.{value_as}
use Rattle.dbus_framing.specs.Headers.{code_in}
use Rattle.dbus_framing.proofs.HeaderLemmas.{no_code}
use Rattle.dbus_framing.proofs.opened.code_in.Goals.{in-Byte, in_default}
use Rattle.dbus_framing.proofs.opened.code_in.Goals as goal

pub returns : goal.returns
returns c = elim c.match-value.branch [
  | in-Byte w ↦ w.result-is ∙ sym (ap (λ v. code_in (value_as (Ty.basic Byte) v)) w.in-Byte.is)
  | in_default w ↦ w.result-is ∙ no_code c.args.value w.in_default.not-Byte
]
