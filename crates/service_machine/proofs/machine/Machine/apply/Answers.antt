use Rattle.std.proofs.Common.{◌≡◌, true, false}
use Rattle.service_answers.specs.service_tables.proofs.FitLemmas.{told_of-there}
use Rattle.service_machine.proofs.machine.Machine.apply.Goals as goal

-- it is there, and isn't leaving
pub leave-requires : goal.leave-requires
leave-requires g c =
    told_of-there (λ desk. desk.leaving ≡ false) c.in-Leave.conn c.args.self.now.tables.connections.rows c.in_ok-there-in-Leave.ensures.there (rw c.in-Leave.is at c.requires.due)

pub returns-in_ok-there-in-Leave-clause-fits : goal.returns-in_ok-there-in-Leave-clause-fits
returns-in_ok-there-in-Leave-clause-fits g c =
    told_of-there (λ desk. desk.leaving ≡ false) c.in-Leave.conn c.args.self.now.tables.connections.rows c.in_ok-there-in-Leave.ensures.there (rw c.in-Leave.is at c.requires.due)

-- it is there, and something waits for it
pub take-outs-requires : goal.take-outs-requires
take-outs-requires g c =
    told_of-there (λ desk. desk.waits ≡ true) c.in-Take.conn c.args.self.now.tables.connections.rows c.in_ok-there-in-Take.ensures.there (rw c.in-Take.is at c.requires.due)

pub returns-in_ok-there-in-Take-clause-fits : goal.returns-in_ok-there-in-Take-clause-fits
returns-in_ok-there-in-Take-clause-fits g c =
    told_of-there (λ desk. desk.waits ≡ true) c.in-Take.conn c.args.self.now.tables.connections.rows c.in_ok-there-in-Take.ensures.there (rw c.in-Take.is at c.requires.due)
