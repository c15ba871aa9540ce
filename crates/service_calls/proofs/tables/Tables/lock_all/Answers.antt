use Rattle.std.proofs.Common.{rules, arith}
use Rattle.service_calls.specs.Rows.{rows_of}
use Rattle.service_calls.proofs.EffectLemmas.{locks-next}
use Rattle.service_calls.proofs.tables.Tables.lock_all.Goals as goal

-- the first of those that are left is locked
pub loop-stem-preserved : goal.loop-stem-preserved
loop-stem-preserved g c = (
  λ conn. locks-next conn c.args.stems.now c.loop-stem.stem-index c.stem-item.result (rows_of c.loop-stem.self) (rows_of c.lock_one.new.self) (rows_of c.args.self.now)
      (omega (arith, c.loop-stem-test.true)) c.stem-item.is (c.lock_one.ensures.rows conn) (c.loop-stem.invariant.0 conn),
  search rules,
  search rules,
)
