use Rattle.sender_board.proofs.LawLemmas.{from_was}
use Rattle.sender_board.proofs.board_laws.a_question_is_open_only_if_it_was_asked.Goals as goal

pub returns : goal.returns
returns g c user serial message rows question asked = from_was user serial message.sender message.kind rows question asked
