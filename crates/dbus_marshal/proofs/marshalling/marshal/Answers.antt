-- What is written into an empty vector is the spelling from the position on.
use Rattle.std.proofs.Common.{false, true}
use Rattle.std.proofs.lemmas.Result.{err_from_is_err_and}
use Rattle.dbus_types.specs.ValueViews.{values_of}
use Rattle.dbus_marshal.proofs.MarshalLaws.{wrote_all, wrote_short, too_long, marshal_spelled, marshal_again}
use Rattle.dbus_marshal.proofs.marshalling.marshal.Goals as goal

pub returns-in_err-write_each-clause-long : goal.returns-in_err-write_each-clause-long
returns-in_err-write_each-clause-long c =
    let p = err_from_is_err_and c.from_residual.result c.from_residual.ensures.1 in rw (p.1, p.2)
    (λ long. wrote_short c.args.endian (values_of c.args.values.now) c.args.place c.new-out.result.items false c.new-out.ensures.items (too_long c.in_err-write_each.field-0.0 _ _ _ _ c.in_err-write_each.ensures long))

pub returns-clause-short : goal.returns-clause-short
returns-clause-short c = wrote_short c.args.endian (values_of c.args.values.now) c.args.place c.new-out.result.items true c.new-out.ensures.items c.in_ok-write_each.ensures.1

pub returns-clause-spelled : goal.returns-clause-spelled
returns-clause-spelled c =
    marshal_spelled c.args.endian (values_of c.args.values.now) c.args.place c.write_each.new.out.items c.requires
    (wrote_all c.args.endian (values_of c.args.values.now) c.args.place c.new-out.result.items c.write_each.new.out.items c.new-out.ensures.items c.in_ok-write_each.ensures.0)
    (wrote_short c.args.endian (values_of c.args.values.now) c.args.place c.new-out.result.items true c.new-out.ensures.items c.in_ok-write_each.ensures.1)

pub returns-clause-again : goal.returns-clause-again
returns-clause-again c =
    let is = wrote_all c.args.endian (values_of c.args.values.now) c.args.place c.new-out.result.items c.write_each.new.out.items c.new-out.ensures.items c.in_ok-write_each.ensures.0 in
    let short = wrote_short c.args.endian (values_of c.args.values.now) c.args.place c.new-out.result.items true c.new-out.ensures.items c.in_ok-write_each.ensures.1 in
    λ valid. marshal_again c.args.endian (values_of c.args.values.now) c.args.place c.write_each.new.out.items valid
    (marshal_spelled c.args.endian (values_of c.args.values.now) c.args.place c.write_each.new.out.items c.requires is short)
