use Rattle.dbus_marshal.proofs.Relation.{one_spelling}
use Rattle.dbus_marshal.proofs.spelling_laws.a_value_has_one_spelling.Goals as goal

pub returns : goal.returns
returns c = λ depth t v xs ys one other. one_spelling depth c.args.endian c.args.place t v xs ys one other
