-- A call that sends nothing besides its reply, and leaves the connections as they are, has room for the reply.
use Rattle.std.proofs.Common.{◌≡◌, IfOk, [], Result, Ok, Err, sym, subst}
use Rattle.kr_base.specs.declared.ids.ConnId.{ConnId}
use Rattle.service_answers.specs.service_calls.specs.Done.{HasRoomToReply}
use Rattle.service_answers.specs.service_calls.specs.declared.storing.Done.{Done}
use Rattle.service_answers.specs.service_calls.proofs.LeadsLemmas.{room-silent}
use Rattle.service_answers.specs.service_tables.specs.Connections.{HasRoom}
use Rattle.service_answers.specs.service_tables.specs.Desks.{Table}

pub room_kept : (caller : ConnId) (done : Done) (old new : Table) → done.sends ≡ [] → new ≡ old → HasRoom 1 caller old.rooms → HasRoomToReply caller done.sends new.rooms
room_kept caller done old new silent same room = room-silent caller done.sends new.rooms silent (subst (λ (table : Table). HasRoom 1 caller table.rooms) (sym same) room)

pub room_left : {E : Type 0} (caller : ConnId) (result : Result Done E) (old new : Table) → IfOk result (λ done. done.sends ≡ []) → new ≡ old → HasRoom 1 caller old.rooms
    → IfOk result (λ done. HasRoomToReply caller done.sends new.rooms)
room_left caller (Ok done) old new silent same room = room_kept caller done old new silent same room
room_left caller (Err cause) old new silent same room = tt
