use Rattle.std.proofs.Common.{sym, subst, arith}
use Rattle.alias_text.specs.Pairs.{AliasesOf, too_long, read}
use Rattle.std.proofs.lemmas.Result.{IfOk-weaker}
use Rattle.alias_text.proofs.pairs.read_aliases.Goals as goal

pub returns-then-bytes-gt-LONGEST : goal.returns-then-bytes-gt-LONGEST
returns-then-bytes-gt-LONGEST c = subst (AliasesOf _) (sym c.new.ensures.items) (too_long _ (omega (arith, c.if-bytes-gt-LONGEST.true)))

pub returns : goal.returns
returns c = IfOk-weaker c.aliases_in.result _ _ (λ pairs gives. read _ _ (omega (arith, c.if-bytes-gt-LONGEST.false)) gives) c.aliases_in.ensures
