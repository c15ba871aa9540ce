use Rattle.std.proofs.Common.{◌≡◌, IsFalse}
use Rattle.std.specs.Io.KnownBytes.{Keeps}
use Rattle.real_edges.proofs.standard.ReaderSourceSource.read.Given as goal

-- the calls that were interrupted took nothing, and the source is open
abbrev pub invariant-loop : goal.invariant-loop
invariant-loop g l = record {
  kept : Keeps (g.S.Read.remaining l.fn.self.reader) (g.S.Read.remaining l.self.reader);
  faults : l.self.faults ≡ l.fn.self.faults;
  is_open : IsFalse l.self.is_closed;
}
