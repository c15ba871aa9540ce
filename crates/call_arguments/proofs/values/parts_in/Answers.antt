use Rattle.std.proofs.Common.{◌∙◌}
use Rattle.dbus_types.specs.ValueViews.{values_of}
use Rattle.call_arguments.proofs.ValueLemmas.{parts_are, fused}
use Rattle.call_arguments.proofs.values.parts_in.Goals as goal

pub returns : goal.returns
returns c = fused (λ parts. parts.now) values_of c.fields.result ∙ parts_are c.args.value.now _ c.fields.ensures.fields
