use Rattle.std.proofs.Common.{refl}
use Rattle.secret_calls.specs.declared.out.Out.TheVariants as out
use Rattle.call_wire.specs.Said.{said}
use Rattle.client_core.specs.Replies.{shape_of}
use Rattle.client_core.proofs.AnswerLemmas.{no_serial}
use Rattle.client_core.proofs.SignalLemmas.{signal_again}
use Rattle.client_core.proofs.client_laws.a_signal_is_read_again.Goals as goal

pub returns : goal.returns
returns c = record {
  signal = λ signal serial is some. signal_again (λ path name at. (c.a_path_is_that_of_its_name.ensures path name).0 at) signal serial is some;
  no_reply = λ call number signal serial. no_serial (shape_of call) number (said (out.Signal signal) serial) refl;
  returned = λ to body serial. refl;
  error = λ to name serial. refl;
}
