use Rattle.std.proofs.Common.{ap}
use Rattle.service_calls.proofs.LeadsLemmas.{room-silent}
use Rattle.service_calls.specs.declared.storing.Done.{Done}
use Rattle.service_calls.proofs.tables.Tables.store_secret.Goals as goal

-- what is refused sends nothing
pub returns-in_default-clause-room : goal.returns-in_default-clause-room
returns-in_default-clause-room g c =
    room-silent c.args.conn c.refused.result.sends c.args.self.now.connections.rooms (ap (λ (done : Done). done.sends) c.refused.ensures) c.requires

pub returns-then-not-owned_by-clause-room : goal.returns-then-not-owned_by-clause-room
returns-then-not-owned_by-clause-room g c =
    room-silent c.args.conn c.refused-then-not-owned_by.result.sends c.args.self.now.connections.rooms (ap (λ (done : Done). done.sends) c.refused-then-not-owned_by.ensures) c.requires

pub returns-then-not-is_open-clause-room : goal.returns-then-not-is_open-clause-room
returns-then-not-is_open-clause-room g c =
    room-silent c.args.conn c.refused-then-not-is_open.result.sends c.args.self.now.connections.rooms (ap (λ (done : Done). done.sends) c.refused-then-not-is_open.ensures) c.requires

pub returns-then-len-gt-MOST_CONTENT-clause-room : goal.returns-then-len-gt-MOST_CONTENT-clause-room
returns-then-len-gt-MOST_CONTENT-clause-room g c =
    room-silent c.args.conn c.refused-then-len-gt-MOST_CONTENT.result.sends c.args.self.now.connections.rooms (ap (λ (done : Done). done.sends) c.refused-then-len-gt-MOST_CONTENT.ensures) c.requires
