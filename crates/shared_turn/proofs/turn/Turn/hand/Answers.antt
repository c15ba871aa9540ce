use Rattle.std.proofs.Common.{rules}
use Rattle.shared_turn.proofs.Keeps.{hands}
use Rattle.shared_turn.proofs.turn.Turn.hand.Goals as goal

pub fetch_add-served-requires : goal.fetch_add-served-requires
fetch_add-served-requires g c = (search rules, search rules, hands g.C.Chronicle.stands _ _ _ _ _ c.requires.ready.0 c.requires.ready.1)
