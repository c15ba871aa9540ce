use Rattle.std.proofs.Common.{◌≡◌, drop, ap, arith}
use Rattle.std.proofs.lemmas.List.{drop_all}
use Rattle.service_tables.specs.Targets.{weight}
use Rattle.service_prompts.proofs.unlocking.weight.Goals as goal

-- no target is left
pub returns : goal.returns
returns c =
    let none : weight (drop c.loop-target.target-index c.args.targets.now) ≡ 0 = ap weight (drop_all c.loop-target.target-index c.args.targets.now (omega (arith, c.loop-target-test.false))) in
    omega (arith, none, c.loop-target.invariant.0, c.loop-target.invariant.1)
