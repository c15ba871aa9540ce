use Rattle.std.proofs.Common.{ap}
use Rattle.service_calls.specs.declared.storing.Done.{Done}
use Rattle.service_calls.proofs.LeadsLemmas.{room-silent}
use Rattle.service_calls.proofs.tables.Tables.begin_small.Goals as goal

-- a prompt that begins sends nothing
pub returns-in-Ok-clause-room : goal.returns-in-Ok-clause-room
returns-in-Ok-clause-room g c =
    room-silent c.args.conn c.unstored.result.sends c.args.self.now.connections.rooms (ap (λ (done : Done). done.sends) c.unstored.ensures) c.requires.room

-- and neither does one that can't begin
pub returns-clause-room : goal.returns-clause-room
returns-clause-room g c =
    room-silent c.args.conn c.refused.result.sends c.args.self.now.connections.rooms (ap (λ (done : Done). done.sends) c.refused.ensures) c.requires.room
