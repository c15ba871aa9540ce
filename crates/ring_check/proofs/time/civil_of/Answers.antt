use Rattle.std.proofs.Common.{◌≡◌, ◌∙◌, ap, arith, pos, ◌<◌, FitsSigned, w8, w16, w32, to_z, of_z}
use Rattle.std.proofs.lemmas.Int.{to_z-of_z, to_z_pos}
use Rattle.ring_check.specs.Time.{day_after}
use Rattle.ring_check.proofs.TimeLemmas.{only_date, kept}
use Rattle.ring_check.proofs.time.civil_of.Goals as goal

pub overflow_cast-result : goal.overflow_cast-result
overflow_cast-result c =
    let number = c.date_after-date.ensures ∙ to_z_pos w32 c.args.days (omega (arith, c.requires)) in
    let year : c.year.result ≡ pos (day_after c.args.days).year = c.year.ensures ∙ (only_date c.date_after-date.result c.args.days number).0 in
    let fits : FitsSigned w16 c.year.result = record { sfits = c.year.type_inv } in
    let whole : to_z w16 (of_z w16 c.year.result) ≡ pos (day_after c.args.days).year = to_z-of_z w16 c.year.result fits ∙ year in
    let small : (day_after c.args.days).year < 32768 = rw year at c.year.type_inv in
    rw whole (tt, record { fits = omega (arith, small) })

pub returns-clause-year : goal.returns-clause-year
returns-clause-year c =
    let number = c.date_after-date.ensures ∙ to_z_pos w32 c.args.days (omega (arith, c.requires)) in
    kept w16 c.year.result _ (record { sfits = c.year.type_inv }) (c.year.ensures ∙ (only_date c.date_after-date.result c.args.days number).0)

pub returns-clause-month : goal.returns-clause-month
returns-clause-month c =
    let number = c.date_after-date.ensures ∙ to_z_pos w32 c.args.days (omega (arith, c.requires)) in
    kept w8 c.month.result _ (record { sfits = c.month.type_inv }) (c.month.ensures ∙ ap pos (only_date c.date_after-date.result c.args.days number).1)

pub returns-clause-day : goal.returns-clause-day
returns-clause-day c =
    let number = c.date_after-date.ensures ∙ to_z_pos w32 c.args.days (omega (arith, c.requires)) in
    kept w8 c.day.result _ (record { sfits = c.day.type_inv }) (c.day.ensures ∙ ap pos (only_date c.date_after-date.result c.args.days number).2)
