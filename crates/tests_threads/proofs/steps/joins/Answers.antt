use Rattle.std.proofs.Common.{OnSome, sym, subst, ◌∙◌}
use Rattle.tests_threads.specs.Recorded.{Owns}
use Rattle.tests_threads.proofs.Recorded.{extends-owns, crowded-owns, some-not-none, table-kept, first-kept, table-left, first-left}
use Rattle.tests_threads.proofs.steps.joins.Goals.{in-Ok, in-Err}
use Rattle.tests_threads.proofs.steps.joins.Goals as goal

pub returns-clause-joined : goal.returns-clause-joined
returns-clause-joined g c =
    elim c.match-join.branch [
      | in-Ok w ↦ rw w.result-is (let left = rw w.in-Ok.is at c.join.ensures.given in extends-owns c.args.pass.now.steady c.args.pass.now c.join.new.pass (table-left c.args.pass.now c.join.new.pass left) (first-left c.args.pass.now c.join.new.pass left) _ _ _ _ (rw w.in-Ok.is at c.join.ensures.joined))
      | in-Err w ↦ rw w.result-is tt
    ]

pub returns-clause-refused : goal.returns-clause-refused
returns-clause-refused g c =
    elim c.match-join.branch [
      | in-Ok w ↦ λ none. absurd (some-not-none _ (sym w.result-is ∙ none))
      | in-Err w ↦ λ none. let kept = rw w.in-Err.is at c.join.ensures.kept in crowded-owns c.args.pass.now.steady c.args.pass.now c.join.new.pass (table-kept c.args.pass.now c.join.new.pass kept) (first-kept c.args.pass.now c.join.new.pass kept) c.join.result _ w.in-Err.is c.join.ensures.refused
    ]
