use Rattle.sender_board.proofs.LawLemmas.{joins_looked_up}
use Rattle.sender_board.proofs.board_laws.a_connection_is_for_a_sender_that_was_looked_up.Goals as goal

pub returns : goal.returns
returns g c user serial message rows sender calls joins = joins_looked_up user serial message rows sender calls joins
