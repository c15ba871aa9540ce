use Rattle.std.proofs.Common.{◌≡◌}
use Rattle.kr_names.specs.Path.{collections}
use Rattle.kr_names.proofs.PathLemmas.{not_item, item_number, item_stem, too_large, item_read}
use Rattle.kr_names.proofs.path.item_of.Goals as goal

pub returns-in_default : goal.returns-in_default
unfolding collections
returns-in_default c = λ it is. c.in_default.ensures _ is.spelled

pub returns-in_default-cut : goal.returns-in_default-cut
unfolding collections
returns-in_default-cut c = not_item c.args.path.now c.in-Some.below.now c.in-Some.ensures c.in_default-cut.ensures

pub returns-in_default-number_of : goal.returns-in_default-number_of
unfolding collections
returns-in_default-number_of c = λ it is.
    c.in_default-number_of.ensures it.1.0 (item_number c.args.path.now c.in-Some.below.now c.in-Some.ensures c.in-Some-cut.escaped.now c.in-Some-cut.digits.now c.in-Some-cut.ensures it is)

pub returns-in_default-try_from : goal.returns-in_default-try_from
unfolding collections
returns-in_default-try_from c =
    too_large c.args.path.now c.in-Some.below.now c.in-Some.ensures c.in-Some-cut.escaped.now c.in-Some-cut.digits.now c.in-Some-cut.ensures c.in-Some-number_of.number c.in-Some-number_of.ensures c.in_default-try_from.ensures

pub returns-in-Some-2 : goal.returns-in-Some-2
unfolding collections
returns-in-Some-2 c =
    let number : c.in-Ok.number ≡ c.in-Some-number_of.number = c.in-Ok.ensures.1 in
    rw number (item_read c.args.path.now c.in-Some.below.now c.in-Some.ensures c.in-Some-cut.escaped.now c.in-Some-cut.digits.now c.in-Some-cut.ensures c.in-Some-2.stem c.in-Some-number_of.number (rw c.in-Some-2.is at c.in_ok-stem.ensures) c.in-Some-number_of.ensures c.in-Ok.ensures.0)

pub returns-in-None : goal.returns-in-None
unfolding collections
returns-in-None c = λ it is.
    let none = rw c.in-None.is at c.in_ok-stem.ensures in
    none it.0 (item_stem c.args.path.now c.in-Some.below.now c.in-Some.ensures c.in-Some-cut.escaped.now c.in-Some-cut.digits.now c.in-Some-cut.ensures it is)
