use Rattle.client_core.proofs.SentLemmas.{asked_is_message}
use Rattle.client_core.proofs.ReadLemmas.{read_again}
use Rattle.client_core.specs.Asked.{said, spelled, most_bytes}
use Rattle.client_core.proofs.client_laws.a_call_is_read_again.Goals as goal

pub returns : goal.returns
returns c = record {
  message = λ serial call can numbered short. asked_is_message serial call can numbered short;
  one = λ serial call parts can numbered is short. c.a_message_has_one_meaning.ensures most_bytes (spelled call serial) parts (said call serial) is (asked_is_message serial call can numbered short);
  call = λ serial call request can is. read_again (λ path name at. (c.a_path_is_that_of_its_name.ensures path name).0 at) serial call request can is;
}
