use Rattle.std.proofs.Common.{sym, ◌∙◌}
use Rattle.std.proofs.lemmas.Result.{on_ok_weaker}
use Rattle.kr_base.specs.IdLists.{with_id}
use Rattle.attribute_index.specs.Index.{ids_in_names}
use Rattle.attribute_index.proofs.PairLemmas.{left-out, let-in-put}
use Rattle.attribute_index.proofs.names.put_own.Goals as goal

pub returns-then-has_pair-clause-put : goal.returns-then-has_pair-clause-put
returns-then-has_pair-clause-put c = λ n t. left-out c.args.pair.now c.args.but.now (sym c.if-has_pair.true ∙ c.has_pair.ensures) n t (with_id c.args.id.0 (ids_in_names c.args.names.now n t)) (ids_in_names c.args.names.now n t)

pub returns-clause-put : goal.returns-clause-put
returns-clause-put c = on_ok_weaker c.put_value.result (λ put. let-in-put c.args.pair.now c.args.but.now (sym c.if-has_pair.false ∙ c.has_pair.ensures) c.args.id.0 c.args.names.now c.put_value.new.names put) c.put_value.ensures.put
