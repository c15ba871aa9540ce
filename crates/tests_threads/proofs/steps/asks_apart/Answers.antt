use Rattle.std.proofs.Common.{subst}
use Rattle.shared_service.specs.Passes.{Seen, IsGathered}
use Rattle.tests_threads.proofs.Recorded.{apart-owns}
use Rattle.tests_threads.proofs.steps.asks_apart.Goals as goal

pub returns-clause-owns : goal.returns-clause-owns
returns-clause-owns g c =
    apart-owns c.asks-asked.result c.args.pass.now c.note-note.result c.asks-asked.new.pass c.gather.new.pass c.note-note.ensures.noted c.asks-asked.ensures.owns
    (subst (λ (s : Seen). IsGathered s c.asks-asked.new.pass c.gather.new.pass) c.note-note.ensures.given c.gather.ensures)
