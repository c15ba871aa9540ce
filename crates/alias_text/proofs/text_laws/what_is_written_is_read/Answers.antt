use Rattle.std.proofs.Common.{sym, subst}
use Rattle.alias_text.specs.Pairs.{AliasesOf}
use Rattle.alias_text.specs.Writing.{text_of}
use Rattle.alias_text.proofs.LawLemmas.{written_is_read, one_reading}
use Rattle.alias_text.proofs.text_laws.what_is_written_is_read.Goals as goal

pub returns : goal.returns
returns c aliases read are fits = (
  λ gives. one_reading (text_of aliases) read aliases gives (written_is_read aliases are fits),
  λ same. subst (λ list. AliasesOf (text_of aliases) list) (sym same) (written_is_read aliases are fits),
)
