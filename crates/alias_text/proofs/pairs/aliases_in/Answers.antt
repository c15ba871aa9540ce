use Rattle.std.proofs.Common.{sym, subst}
use Rattle.alias_text.proofs.PairLemmas.{Reading, Reading-none, Reading-more}
use Rattle.alias_text.proofs.pairs.aliases_in.Goals as goal

pub loop-line-init : goal.loop-line-init
loop-line-init c = subst (Reading _ _) (sym c.new-pairs.ensures.items) (Reading-none _)

-- one more line
pub loop-line-preserved : goal.loop-line-preserved
loop-line-preserved c =
    Reading-more _ _ c.in-Some.line.now c.in-Some.after.now _ _ c.loop-line.invariant c.in-Some.ensures c.in_ok-add.ensures
