use Rattle.kr_names.specs.Path.{collections}
use Rattle.kr_names.specs.Escape.{escaped}
use Rattle.kr_names.proofs.PathLemmas.{collection_read}
use Rattle.kr_names.proofs.path.collection_of.Goals as goal

pub returns-in-Some : goal.returns-in-Some
unfolding collections
returns-in-Some c = collection_read c.args.path.now c.in-Some.escaped.now c.in-Some.ensures c.stem_of_escaped.result c.stem_of_escaped.ensures

pub returns-in-None : goal.returns-in-None
unfolding collections
returns-in-None c = λ stem is. c.in-None.ensures (escaped stem) is.spelled
