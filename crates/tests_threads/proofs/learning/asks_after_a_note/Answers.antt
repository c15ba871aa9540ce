use Rattle.std.proofs.Common.{subst}
use Rattle.shared_turn.specs.Places.{StartsWith}
use Rattle.shared_service.specs.Passes.{Seen}
use Rattle.tests_threads.proofs.Recorded.{starts-through, arrives-starts}
use Rattle.tests_threads.proofs.learning.asks_after_a_note.Goals as goal

pub returns-clause-learnt : goal.returns-clause-learnt
returns-clause-learnt g c =
    starts-through c.arrive.new.pass.view.seen c.gather.new.pass.view.seen c.args.other.now.view.seen
    (arrives-starts c.args.conn c.args.conn c.gather.new.pass.home c.gather.new.pass.steady c.gather.new.pass.view c.arrive.new.pass.view _ c.arrive.result c.arrive.ensures.recorded c.arrive.ensures.looked)
    (subst (λ (s : Seen). StartsWith c.gather.new.pass.view.seen s.view.seen) c.note-note.ensures.noted c.gather.ensures.starts_other)
