use Rattle.std.proofs.Common.{sym, ◌∙◌}
use Rattle.keyring_file.proofs.AreaLaws.{area_fails}
use Rattle.keyring_file.proofs.area_reading.area_of.Goals as goal

pub returns-in-Err : goal.returns-in-Err
returns-in-Err c =
    rw c.area_refused.ensures (area_fails c.in-Err.refused c.args.area.now c.args.count c.split_at.result.1.now c.split_at.ensures.back (sym c.is_checked.ensures.test ∙ c.if-not-is_checked.false) c.in-Err.ensures)
