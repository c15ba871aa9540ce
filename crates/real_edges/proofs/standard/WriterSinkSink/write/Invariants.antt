use Rattle.std.proofs.Common.{◌≡◌, IsFalse}
use Rattle.std.specs.Io.KnownBytes.{Keeps}
use Rattle.real_edges.proofs.standard.WriterSinkSink.write.Given as goal

-- the calls that were interrupted wrote nothing, and the sink is open
abbrev pub invariant-loop : goal.invariant-loop
invariant-loop g l = record {
  kept : Keeps (g.S.Write.contents l.fn.self.writer) (g.S.Write.contents l.self.writer);
  faults : l.self.faults ≡ l.fn.self.faults;
  is_open : IsFalse l.self.is_closed;
}
