use Rattle.std.proofs.Common.{arith}
use Rattle.std.proofs.lemmas.Str.Pattern.{split_parts}
use Rattle.kr_names.proofs.PathLemmas.{cut_read}
use Rattle.kr_names.proofs.path.cut.Goals as goal

pub returns : goal.returns
returns c = cut_read c.args.text.now c.split_once.result (split_parts 47 c.args.text.now c.split_once.result c.split_once.ensures.cases (omega arith))
