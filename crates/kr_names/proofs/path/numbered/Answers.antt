use Rattle.std.proofs.Common.{arith}
use Rattle.kr_names.proofs.PathLemmas.{not_numbered, not_positive}
use Rattle.kr_names.proofs.path.numbered.Goals as goal

pub returns-in_default-number_of : goal.returns-in_default-number_of
returns-in_default-number_of c =
    not_numbered c.args.front.now c.args.path.now c.in-Some.digits.now c.in-Some.ensures c.in_default-number_of.ensures

pub returns-then-number-eq0 : goal.returns-then-number-eq0
returns-then-number-eq0 c =
    not_positive c.args.front.now c.args.path.now c.in-Some.digits.now c.in-Some.ensures c.in-Some-number_of.number c.in-Some-number_of.ensures (omega arith)
