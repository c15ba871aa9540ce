use Rattle.dbus_marshal.proofs.MarshalLaws.{goes_on}
use Rattle.dbus_marshal.proofs.spelling_laws.no_spelling_goes_on.Goals as goal

pub returns : goal.returns
returns c = λ ts vs ws bytes rest valid one other. goes_on c.args.endian c.args.place ts vs ws bytes rest valid one other
