use Rattle.std.proofs.Common.{subst, sym}
use Rattle.service_answers.specs.secret_calls.specs.declared.out.ErrorName.TheVariants as name
use Rattle.service_answers.specs.secret_calls.specs.declared.out.Out.TheVariants as out
use Rattle.service_answers.specs.service_tables.specs.Connections.{HasRoomFor}
use Rattle.service_answers.specs.service_tables.proofs.RoomLemmas.{first-room}
use Rattle.service_answers.specs.service_calls.proofs.LeadsLemmas.{room-after}
use Rattle.service_machine.proofs.machine.Machine.reply.Goals as goal

-- there is room for the reply
pub push-requires : goal.push-requires
push-requires g c = first-room (record { to = c.args.conn; out = c.message.result }) c.args.sends c.args.self.now.tables.connections.rooms (c.requires c.message.result)

-- and for what is sent after it
pub deliver-requires-2 : goal.deliver-requires-2
deliver-requires-2 g c =
    subst (λ sends. HasRoomFor sends c.push.new.self.rooms) (sym c.into_vec-2.ensures) (c.push.ensures.room c.args.sends (c.requires c.message.result))

-- or for that alone
pub deliver-requires : goal.deliver-requires
deliver-requires g c =
    subst (λ sends. HasRoomFor sends c.args.self.now.tables.connections.rooms) (sym c.into_vec.ensures)
    (room-after c.args.conn (out.Error c.args.request.now.serial name.IOError) c.args.sends c.args.self.now.tables.connections.rooms c.requires)
