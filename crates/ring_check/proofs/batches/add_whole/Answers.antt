use Rattle.std.proofs.Common.{◌≡◌, refl, rules}
use Rattle.folder_store.proofs.VisitLemmas.{whatever}
use Rattle.ring_check.specs.Verdict.{password_in}
use Rattle.ring_check.proofs.BatchLemmas.{upto_push, front_now, keeps_for}
use Rattle.ring_check.proofs.batches.add_whole.Goals as goal

pub returns-in_err-make_room-clause-front : goal.returns-in_err-make_room-clause-front
returns-in_err-make_room-clause-front g c start files more up_to = whatever _ (c.in_err-make_room.ensures.front start files more up_to)

pub returns-in_err-make_room-clause-kept : goal.returns-in_err-make_room-clause-kept
returns-in_err-make_room-clause-kept g c =
    keeps_for g.O.Sink.faults g.O.Sink.is_steady g.O.Sink.is_closed _ _ _ _ (λ same. search rules) c.make_room.ensures.kept

-- there is no memory for one more file
pub returns-then-is_err-clause-front : goal.returns-then-is_err-clause-front
returns-then-is_err-clause-front g c start files more up_to =
    front_now (password_in c.args.password) start (g.O.Sink.written c.make_room.new.output) (g.O.Sink.written c.make_room.new.output) c.make_room.new.batch files
    (c.in_ok-make_room.ensures.up_to start files up_to) more

pub returns-clause-up_to : goal.returns-clause-up_to
returns-clause-up_to g c start files up_to =
    upto_push (password_in c.args.password) start (g.O.Sink.written c.make_room.new.output) (g.O.Sink.written c.make_room.new.output) c.make_room.new.batch files (c.in_ok-make_room.ensures.up_to start files up_to) _ (c.args.name, c.args.bytes) (search rules) refl

pub returns-clause-kept : goal.returns-clause-kept
returns-clause-kept g c =
    keeps_for g.O.Sink.faults g.O.Sink.is_steady g.O.Sink.is_closed _ _ _ _ (λ same. absurd (let never : ⊥ = cc in never)) c.make_room.ensures.kept
