use Rattle.std.proofs.Common.{◌∙◌, arith, ◌+ℤ◌, FitsSigned, w32, w64}
use Rattle.std.proofs.lemmas.Int.{to_z-of_z}
use Rattle.jiff.proofs.SpanFacts.{signed_arith, date_add-days, can_add-days}
use Rattle.jiff.specs.Words.{epoch_day, IsEpochDay}
use Rattle.ring_check.proofs.TimeLemmas.{is_first}
use Rattle.ring_check.proofs.time.date_after.Goals as goal

pub unreachable-requires : goal.unreachable-requires
unreachable-requires c =
    let small : FitsSigned w32 c.args.days = c.ranges.days in
    let large : FitsSigned w64 c.args.days = omega (arith, signed_arith) in
    let only = simp to_z-of_z at c.days.ensures in
    let first = is_first c.date.result c.date.ensures.0 c.date.ensures.1 c.date.ensures.2 in
    let can = can_add-days c.date.result c.args.days c.days.result only in
    let day : IsEpochDay (epoch_day c.date.result +ℤ c.args.days) = omega (arith, signed_arith, first, c.requires.from, c.requires.to) in
    let ok = c.in-Err.ensures.succeeds.1 (can.1 day) in
    let never : ⊥ = cc in never

pub returns : goal.returns
returns c =
    let small : FitsSigned w32 c.args.days = c.ranges.days in
    let large : FitsSigned w64 c.args.days = omega (arith, signed_arith) in
    let only = simp to_z-of_z at c.days.ensures in
    let first = is_first c.date.result c.date.ensures.0 c.date.ensures.1 c.date.ensures.2 in
    let sum = date_add-days c.date.result c.args.days c.days.result only in
    c.in-Ok.ensures.value ∙ sum ∙ omega (arith, signed_arith, first)
