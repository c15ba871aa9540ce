use Rattle.std.proofs.Common.{sym, subst, ℕ}
use Rattle.tests_threads.specs.Recorded.{Owns}
use Rattle.tests_threads.proofs.Recorded.{arrives-owns, refuses-owns, table-kept, first-kept}
use Rattle.tests_threads.proofs.steps.asks.Goals.{in-Ok, in-Err}
use Rattle.tests_threads.proofs.steps.asks.Goals as goal

pub returns-clause-owns : goal.returns-clause-owns
returns-clause-owns g c =
    let old = c.args.pass.now in let new = c.arrive.new.pass in
    elim c.match-arrive.branch [
      | in-Ok w ↦ subst (λ (n : ℕ). Owns n old new) (sym w.result-is) (arrives-owns old.steady old new (table-kept old new c.arrive.ensures.same) (first-kept old new c.arrive.ensures.same) c.args.conn _ c.arrive.result _ w.in-Ok.is c.arrive.ensures.recorded)
      | in-Err w ↦ subst (λ (n : ℕ). Owns n old new) (sym w.result-is) (refuses-owns old.steady old new (table-kept old new c.arrive.ensures.same) (first-kept old new c.arrive.ensures.same) c.args.conn c.arrive.result _ w.in-Err.is c.arrive.ensures.looked)
    ]
