use Rattle.sender_board.proofs.LawLemmas.{others_quiet}
use Rattle.sender_board.proofs.board_laws.only_the_bus_and_calls_count.Goals as goal

pub returns : goal.returns
returns g c user serial message rows other off = others_quiet user serial message.sender message.kind rows other off
