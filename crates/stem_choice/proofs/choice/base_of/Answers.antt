use Rattle.std.proofs.Common.{◌≡◌, ◌<◌, length, IfOk, sym, subst, arith, length-take-le}
use Rattle.stem_choice.proofs.CandidateLemmas.{base_long, base_short}
use Rattle.stem_choice.proofs.choice.base_of.Goals as goal

pub slice_bounds-stem_bytes-end : goal.slice_bounds-stem_bytes-end
slice_bounds-stem_bytes-end c = sym (length-take-le 64 c.args.label.now (omega arith))

pub returns-then-label-gt-LABEL_LIMIT : goal.returns-then-label-gt-LABEL_LIMIT
returns-then-label-gt-LABEL_LIMIT c =
    let long : 64 < length c.args.label.now = omega arith in
    subst (λ l. IfOk c.stem_bytes.result (λ base. base.items ≡ l)) (base_long c.args.label.now long) c.stem_bytes.ensures

pub returns-else-label-gt-LABEL_LIMIT : goal.returns-else-label-gt-LABEL_LIMIT
returns-else-label-gt-LABEL_LIMIT c =
    let some : 0 < length c.args.label.now = grind arith in
    subst (λ l. IfOk c.stem_bytes-else-label-gt-LABEL_LIMIT.result (λ base. base.items ≡ l)) (base_short c.args.label.now some (omega arith)) c.stem_bytes-else-label-gt-LABEL_LIMIT.ensures
