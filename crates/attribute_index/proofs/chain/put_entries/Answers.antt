use Rattle.std.proofs.Common.{refl, ◌∙◌}
use Rattle.attribute_index.proofs.MakingLemmas.{kept-put, left-next, put-next}
use Rattle.attribute_index.proofs.chain.put_entries.Goals as goal
use Rattle.attribute_index.proofs.chain.put_entries.Goals.{in-Some+in_ok-answer-in-Some, in-None+in_ok-push-in-None}

pub loop-entry-preserved : goal.loop-entry-preserved
loop-entry-preserved c =
    let (kept, same) = c.loop-entry.invariant in
    elim c.match-put_entry.branch [
      | in-Some+in_ok-answer-in-Some w ↦
          let put = rw w.in_ok-answer-in-Some.was at w.in-Some.ensures.put in
          rw w.left-is (kept-put _ _ _ _ _ put kept, λ n t x. put-next c.args.entries.now c.loop-entry.entry-index c.entry-item.result c.loop-entry-test.true c.entry-item.is c.loop-entry.left.items _ _ put.put n t x ∙ same n t x)
      | in-None+in_ok-push-in-None w ↦
          let as_was = w.in-None.ensures.kept refl in
          rw w.left-is (rw as_was kept, λ n t x. left-next c.args.entries.now c.loop-entry.entry-index c.entry-item.result c.loop-entry-test.true c.entry-item.is c.loop-entry.left.items _ _ as_was w.push.new.self.items (rw w.copy.ensures at w.in_ok-push-in-None.ensures.items) n t x ∙ same n t x)
    ]
