use Rattle.std.proofs.Common.{rules}
use Rattle.shared_turn.proofs.Keeps.{notes}
use Rattle.shared_turn.proofs.turn.Turn.note.Goals as goal

pub split_seat-place-requires : goal.split_seat-place-requires
split_seat-place-requires g c = (search rules, search rules, notes g.C.Chronicle.stands _ _ _ _ c.pass.invariant.start (search rules) (search rules))
