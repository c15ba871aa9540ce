use Rattle.std.proofs.Common.{sym, ◌∙◌}
use Rattle.kr_base.specs.IdLists.{without_id}
use Rattle.attribute_index.specs.Index.{ids_in_names}
use Rattle.attribute_index.proofs.PairLemmas.{left-out, let-in-taken}
use Rattle.attribute_index.proofs.names.take_own.Goals as goal

pub returns-then-has_pair-clause-taken : goal.returns-then-has_pair-clause-taken
returns-then-has_pair-clause-taken c = λ n t. left-out c.args.pair.now c.args.but.now (sym c.if-has_pair.true ∙ c.has_pair.ensures) n t (without_id c.args.id.0 (ids_in_names c.args.names.now n t)) (ids_in_names c.args.names.now n t)

pub returns-clause-taken : goal.returns-clause-taken
returns-clause-taken c = let-in-taken c.args.pair.now c.args.but.now (sym c.if-has_pair.false ∙ c.has_pair.ensures) c.args.id.0 c.args.names.now c.take_value.new.names c.take_value.ensures.taken
