use Rattle.std.proofs.Common.{◌≡◌}
use Rattle.connection_worker.specs.Reader.{HandedSoFar}
use Rattle.connection_worker.specs.Serving.{world}
use Rattle.connection_worker.proofs.reading.hand_in_all.Given as goal

-- the calls among the messages so far were handed in
abbrev pub invariant-loop : goal.invariant-loop
invariant-loop g l =
    let told = g.D.Desk.told in
    (l.framer.most ≡ l.fn.framer.most)
    × HandedSoFar l.fn.framer.most l.fn.framer.rest l.framer.rest (world told g.D.Desk.has_seen g.C.Clock.coming l.initial.desk l.initial.clock l.initial.salts)
    (world told g.D.Desk.has_seen g.C.Clock.coming l.desk l.clock l.salts)
