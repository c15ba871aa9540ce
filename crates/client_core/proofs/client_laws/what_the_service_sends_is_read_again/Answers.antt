use Rattle.client_core.proofs.AnswerLemmas.{return_again, other_shape, error_again, other_serial, no_serial}
use Rattle.client_core.specs.Replies.{shape_of}
use Rattle.client_core.proofs.client_laws.what_the_service_sends_is_read_again.Goals as goal

pub returns : goal.returns
returns c = record {
  returned = λ call to body serial typed some is. return_again (λ path name at. (c.a_path_is_that_of_its_name.ensures path name).0 at) (shape_of call) to body serial typed some is;
  other_shape = λ call to body serial not. other_shape (shape_of call) to body serial not;
  error = λ call to name serial. error_again (shape_of call) to name serial;
  other_serial = λ call number to parts is not. other_serial (shape_of call) number to parts is not;
  no_serial = λ call number parts is. no_serial (shape_of call) number parts is;
}
