use Rattle.std.proofs.Common.{ap, sym, ◌∙◌}
use Rattle.dbus_types.specs.ValueViews.{value_of}
use Rattle.dbus_framing.specs.Headers.{number_in}
use Rattle.dbus_framing.proofs.HeaderLemmas.{no_number}
use Rattle.dbus_framing.proofs.opened.number_in.Goals.{in-Uint32, in_default}
use Rattle.dbus_framing.proofs.opened.number_in.Goals as goal

pub returns : goal.returns
returns c = elim c.match-value.branch [
  | in-Uint32 w ↦ w.result-is ∙ sym (ap (λ v. number_in (value_of v)) w.in-Uint32.is)
  | in_default w ↦ w.result-is ∙ no_number c.args.value w.in_default.not-Uint32
]
