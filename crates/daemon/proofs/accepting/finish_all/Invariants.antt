use Rattle.std.proofs.Common.{◌+◌, ◌≤◌, length}
use Rattle.std.specs.Prelude.{vec_len, vec_capacity}
use Rattle.daemon.specs.Jobs.{Serves}
use Rattle.daemon.proofs.FinishLemmas.{IsFinishing}
use Rattle.daemon.proofs.accepting.finish_all.Given as goal

-- the jobs so far are finished, and there is room for the results of the others
abbrev pub invariant-loop-served : goal.invariant-loop-served
invariant-loop-served g l =
    let reader = g.U.Reader.Desk in
    let writer = g.U.Writer.Desk in
    let source = g.L.In.Source in
    let sink = g.L.Out.Sink in
    IsFinishing (Serves reader.told reader.has_seen writer.told writer.has_seen g.U.Time.Clock.coming source.left source.faults source.is_steady source.is_closed
    sink.written sink.faults sink.is_steady sink.is_closed) l.initial.spawner l.spawner l.initial.done.items l.done.items
    × (vec_len l.done + length l.spawner.started ≤ vec_capacity l.done)

abbrev pub decreases-loop-served : goal.decreases-loop-served
decreases-loop-served g l = length l.spawner.started
