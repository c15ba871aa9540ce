-- The attributes are those gathered from the pairs.
use Rattle.std.proofs.Common.{sym, ◌∙◌}
use Rattle.std.proofs.lemmas.Bool.{eqb-true, eqb-false}
use Rattle.tool_script.proofs.TextLemmas.{made-are, made-texts}
use Rattle.tool_script.proofs.command.attributes_of.Goals as goal

pub returns-in_ok-from_pairs-in-Some-clause-are : goal.returns-in_ok-from_pairs-in-Some-clause-are
returns-in_ok-from_pairs-in-Some-clause-are c =
    made-are c.args.words.now c.in-Some.pairs.items c.in_ok-from_pairs-in-Some.field-0 (eqb-false _ _ (sym c.is_empty.ensures ∙ c.if-is_empty.false)) (rw c.in-Some.is at c.in_ok-pairs.ensures)
    c.in_ok-from_pairs-in-Some.ensures

pub returns-in_ok-from_pairs-in-Some-clause-texts : goal.returns-in_ok-from_pairs-in-Some-clause-texts
returns-in_ok-from_pairs-in-Some-clause-texts c = made-texts c.in-Some.pairs.items c.in_ok-from_pairs-in-Some.field-0 c.in_ok-from_pairs-in-Some.ensures
