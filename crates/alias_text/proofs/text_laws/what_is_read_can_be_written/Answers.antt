use Rattle.alias_text.proofs.LawLemmas.{read_are}
use Rattle.alias_text.proofs.text_laws.what_is_read_can_be_written.Goals as goal

pub returns : goal.returns
returns c = read_are
