use Rattle.std.proofs.Common.{◌≡◌, ◌∷◌, ◌++◌, [], ◌∙◌, ap, sym, arith}
use Rattle.std.proofs.lemmas.List.Sums.{sum_by_push}
use Rattle.signal_fanout.specs.Outboxes.{size_of}
use Rattle.signal_fanout.specs.Boxes.{row_of}
use Rattle.signal_fanout.proofs.BoxLemmas.{size_of-is, with_out-over, with_out-fits}
use Rattle.signal_fanout.proofs.outbox.Outbox.put.Goals as goal

-- too much would wait
pub returns-then-size-self-clause-row : goal.returns-then-size-self-clause-row
returns-then-size-self-clause-row c = λ conn.
    let size = size_of-is c.args.out c.size_of_out-size.result (c.size_of_out-size.ensures 1) in
    sym (with_out-over c.args.out (row_of (conn, c.args.self.now)) c.if-self.false (omega (arith, size, c.requires.counts.counted, c.requires.counts.bounded)))

-- there is room for it
pub returns-clause-row : goal.returns-clause-row
returns-clause-row c = λ conn.
    let size = size_of-is c.args.out c.size_of_out-size.result (c.size_of_out-size.ensures 1) in
    let pushed : c.push.new.self.items ≡ c.args.self.now.waiting.items ++ c.args.out ∷ [] = rw c.unwrap.ensures at c.push.ensures.items in
    ap (λ t. record (row_of (conn, c.args.self.now)) { waiting = t }) pushed
    ∙ sym (with_out-fits c.args.out (row_of (conn, c.args.self.now)) c.if-self.false (omega (arith, size, c.requires.counts.counted, c.requires.counts.bounded)))

pub returns-clause-counts : goal.returns-clause-counts
returns-clause-counts c =
    let size = size_of-is c.args.out c.size_of_out-size.result (c.size_of_out-size.ensures 1) in
    let pushed : c.push.new.self.items ≡ c.args.self.now.waiting.items ++ c.args.out ∷ [] = rw c.unwrap.ensures at c.push.ensures.items in
    record {
      counted = rw pushed (omega (arith, sum_by_push size_of c.args.self.now.waiting.items c.args.out, size, c.requires.counts.counted));
      bounded = omega (arith, c.requires.counts.bounded);
    }
