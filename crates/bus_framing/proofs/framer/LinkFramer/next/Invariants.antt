-- Messages that aren't heard are passed over.
use Rattle.std.proofs.Common.{length}
use Rattle.bus_framing.specs.Links.{Passes}
use Rattle.bus_framing.proofs.framer.LinkFramer.next.Given as goal

abbrev pub invariant-messages : goal.invariant-messages
invariant-messages l = Passes l.initial.self l.self

abbrev pub decreases-messages : goal.decreases-messages
decreases-messages l = length l.self.left
