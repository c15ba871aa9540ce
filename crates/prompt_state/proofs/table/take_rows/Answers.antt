use Rattle.std.proofs.Common.{◌^◌, ◌∙◌}
use Rattle.std.specs.Map.{values_of}
use Rattle.prompt_state.proofs.IndexLemmas.{all-left, fewer-left, given-left, numbered-left, others-left, pairs-below, rising-left}
use Rattle.prompt_state.proofs.table.take_rows.Goals as goal

pub first_of-requires : goal.first_of-requires
first_of-requires c = pairs-below (2 ^ 64) (values_of c.loop-number.rows.entries) c.loop-number.pairs.keys c.loop-number.invariant.given c.loop-number.invariant.indexed

-- one of the owner's is removed, and the others stay
pub loop-number-preserved : goal.loop-number-preserved
loop-number-preserved c =
    let taken = c.drop_row.ensures.taken in
    let had = c.loop-number.invariant in
    record {
      others = others-left c.in-Some.number c.args.owner.0 c.loop-number.rows.entries c.drop_row.new.rows.entries c.loop-number.pairs.keys taken had.numbered had.rising had.indexed c.in-Some.ensures.found ∙ had.others;
      given = given-left c.in-Some.number c.args.owner.0 c.loop-number.rows.entries c.drop_row.new.rows.entries c.loop-number.pairs.keys taken had.numbered (2 ^ 64) had.given;
      rising = rising-left c.in-Some.number c.args.owner.0 c.loop-number.rows.entries c.drop_row.new.rows.entries c.loop-number.pairs.keys taken had.numbered had.rising;
      numbered = numbered-left c.in-Some.number c.args.owner.0 c.loop-number.rows.entries c.drop_row.new.rows.entries c.loop-number.pairs.keys taken had.numbered;
      indexed = c.drop_row.ensures.indexed;
    }

pub loop-number-smaller : goal.loop-number-smaller
loop-number-smaller c =
    fewer-left c.in-Some.number c.args.owner.0 c.loop-number.rows.entries c.drop_row.new.rows.entries c.loop-number.pairs.keys c.drop_row.ensures.taken c.loop-number.invariant.numbered
    c.loop-number.invariant.indexed c.in-Some.ensures.found

pub returns-clause-others : goal.returns-clause-others
returns-clause-others c = all-left c.args.owner.0 (values_of c.loop-number.rows.entries) c.loop-number.pairs.keys c.loop-number.invariant.indexed c.in_default.ensures.none ∙ c.loop-number.invariant.others
