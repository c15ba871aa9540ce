use Rattle.std.proofs.Common.{subst}
use Rattle.shared_service.specs.Passes.{Seen, IsGathered}
use Rattle.tests_threads.proofs.Recorded.{apart-owns}
use Rattle.tests_threads.proofs.steps.takes_apart.Goals as goal

pub returns-clause-owns : goal.returns-clause-owns
returns-clause-owns g c =
    apart-owns c.takes-took.result c.args.pass.now c.note-note.result c.takes-took.new.pass c.gather.new.pass c.note-note.ensures.noted c.takes-took.ensures.owns
    (subst (λ (s : Seen). IsGathered s c.takes-took.new.pass c.gather.new.pass) c.note-note.ensures.given c.gather.ensures)
