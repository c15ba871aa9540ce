use Rattle.sender_board.proofs.BoundLemmas.{from_bounded}
use Rattle.sender_board.proofs.board_laws.what_waits_is_bounded.Goals as goal

pub returns : goal.returns
returns g c user serial message rows bounded = from_bounded user serial message.sender message.kind rows bounded
