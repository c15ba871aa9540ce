use Rattle.alias_text.proofs.LineLemmas.{pair_is_text}
use Rattle.alias_text.proofs.line.pair_of.Goals as goal

-- a line that gives an alias is UTF-8
pub returns-in-Err : goal.returns-in-Err
returns-in-Err c pair is = c.in-Err.ensures.cases.0 (pair_is_text c.args.line.now pair.0 pair.1 is)
