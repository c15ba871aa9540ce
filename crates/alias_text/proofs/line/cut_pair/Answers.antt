use Rattle.std.proofs.Common.{arith}
use Rattle.std.proofs.lemmas.Str.Pattern.{split_parts}
use Rattle.alias_text.proofs.LineLemmas.{cut_read}
use Rattle.alias_text.proofs.line.cut_pair.Goals as goal

pub returns : goal.returns
returns c = cut_read c.args.line.now c.split_once.result (split_parts 61 c.args.line.now c.split_once.result c.split_once.ensures.cases (omega arith))
