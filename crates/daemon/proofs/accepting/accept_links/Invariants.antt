use Rattle.std.proofs.Common.{◌≡◌, ◌+◌, ◌≤◌, length}
use Rattle.std.specs.Prelude.{vec_len, vec_capacity}
use Rattle.kr_outside.specs.Faults.{KeepsSteady}
use Rattle.daemon.specs.Accepts.{IsRound, standing, listening}
use Rattle.daemon.specs.Hubs.{IsSameHub}
use Rattle.daemon.proofs.AcceptLemmas.{AcceptedSoFar}
use Rattle.daemon.proofs.accepting.accept_links.Given as goal

-- the links so far, and what the listener, the hub and the results are like after them
abbrev pub invariant-loop : goal.invariant-loop
invariant-loop g l =
    let reader = g.U.Reader.Desk in
    let writer = g.U.Writer.Desk in
    let source = g.L.In.Source in
    let sink = g.L.Out.Sink in
    let hub = g.U.Hub in
    let listener = g.L.Listener in
    AcceptedSoFar (IsRound reader.told reader.has_seen writer.told writer.has_seen source.left source.faults source.is_steady source.is_closed sink.written sink.faults
    sink.is_steady sink.is_closed (hub.uid l.initial.hub) (hub.guid l.initial.hub) (hub.seed l.initial.hub) (hub.home l.initial.hub)) l.fn.most l.left
    (record { standing = standing hub.view hub.lent hub.refused l.initial.hub l.initial.spawner; listening = listening listener.coming listener.given l.initial.listener })
    (record { standing = standing hub.view hub.lent hub.refused l.hub l.spawner; listening = listening listener.coming listener.given l.listener })
    × (listener.faults l.listener ≡ listener.faults l.initial.listener)
    × IsSameHub hub.uid hub.guid hub.seed hub.home l.initial.hub l.hub
    × KeepsSteady (listener.is_steady l.initial.listener) (listener.is_steady l.listener) (listener.faults l.initial.listener) (listener.faults l.listener)
    × (l.done.items ≡ l.initial.done.items)
    × (vec_len l.done + length l.spawner.started ≤ vec_capacity l.done)
    × (listener.address l.listener ≡ listener.address l.initial.listener)
