use Rattle.std.proofs.Common.{sym, subst, ℕ}
use Rattle.secret_calls.specs.declared.taken.Taken.{Taken}
use Rattle.tests_threads.specs.Recorded.{Owns}
use Rattle.tests_threads.proofs.Recorded.{takes-owns, recorded_by, table-kept, first-kept}
use Rattle.tests_threads.proofs.steps.takes.Goals.{in-Outs, in-Closed, in-Overrun, in-Missing, in-Empty}
use Rattle.tests_threads.proofs.steps.takes.Goals as goal

pub returns-clause-owns : goal.returns-clause-owns
returns-clause-owns g c =
    let old = c.args.pass.now in let new = c.take.new.pass in
    let all : Owns (recorded_by c.take.result) old new = takes-owns old.steady old new (table-kept old new c.take.ensures.same) (first-kept old new c.take.ensures.same) c.args.conn c.take.result c.take.ensures.taken in
    elim c.match-take.branch [
      | in-Outs w ↦ subst (λ (n : ℕ). Owns n old new) (sym w.result-is) (subst (λ (t : Taken). Owns (recorded_by t) old new) w.in-Outs.is all)
      | in-Closed w ↦ subst (λ (n : ℕ). Owns n old new) (sym w.result-is) (subst (λ (t : Taken). Owns (recorded_by t) old new) w.in-Closed.is all)
      | in-Overrun w ↦ subst (λ (n : ℕ). Owns n old new) (sym w.result-is) (subst (λ (t : Taken). Owns (recorded_by t) old new) w.in-Overrun.is all)
      | in-Missing w ↦ subst (λ (n : ℕ). Owns n old new) (sym w.result-is) (subst (λ (t : Taken). Owns (recorded_by t) old new) w.in-Missing.is all)
      | in-Empty w ↦ subst (λ (n : ℕ). Owns n old new) (sym w.result-is) (subst (λ (t : Taken). Owns (recorded_by t) old new) w.in-Empty.is all)
    ]
