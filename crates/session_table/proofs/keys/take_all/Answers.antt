use Rattle.std.proofs.Common.{◌∙◌, sym, ap, filter, not, ◌==◌}
use Rattle.session_table.proofs.KeyLemmas.{no_others, others_stay, fewer, given_stay}
use Rattle.session_table.proofs.keys.take_all.Goals as goal

-- one of the owner's is removed, and the others stay
pub loop-session-preserved : goal.loop-session-preserved
loop-session-preserved c = record {
  others = ap (filter (λ key. not (key.0 == c.args.owner))) c.take.ensures.others ∙ others_stay c.args.owner c.in-Some.session c.loop-session.keys.keys ∙ c.loop-session.invariant.others;
  ordered = c.take.ensures.ordered;
  numbers = rw c.take.ensures.others (given_stay _ _ _ c.loop-session.invariant.numbers);
}

pub loop-session-smaller : goal.loop-session-smaller
loop-session-smaller c = rw c.take.ensures.others (fewer c.args.owner c.in-Some.session c.loop-session.keys.keys c.in-Some.ensures.found)

pub returns-clause-others : goal.returns-clause-others
returns-clause-others c = sym (no_others c.args.owner c.loop-session.keys.keys c.in_default.ensures.none) ∙ c.loop-session.invariant.others
