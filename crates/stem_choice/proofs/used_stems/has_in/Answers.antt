use Rattle.std.proofs.Common.{sym, rules}
use Rattle.std.specs.Cmp.Lexicographic.{slice_cmp}
use Rattle.std.specs.Ordering.{nat_cmp}
use Rattle.std.proofs.lemmas.Fn.{always_returns_same}
use Rattle.stem_choice.proofs.UsedLemmas.{found, missed}
use Rattle.stem_choice.proofs.used_stems.has_in.Goals as goal

-- the closure compares a stem with the bytes that are looked for
pub returns-in-Ok : goal.returns-in-Ok
returns-in-Ok c =
    let equal = c.in-Ok.ensures.position (λ p. slice_cmp nat_cmp p c.args.bytes.now) (always_returns_same _ _ _ (λ a r h called. (search rules, search rules))) in
    sym (found c.args.bytes.now c.args.stems.now c.in-Ok.field-0 c.in-Ok.ensures.bound equal)

pub returns-in-Err : goal.returns-in-Err
returns-in-Err c =
    let gap = c.in-Err.ensures.position (λ p. slice_cmp nat_cmp p c.args.bytes.now) (always_returns_same _ _ _ (λ a r h called. (search rules, search rules))) in
    sym (missed c.args.bytes.now c.args.stems.now c.in-Err.field-0 c.requires gap)
