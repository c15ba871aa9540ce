use Rattle.std.proofs.Common.{◌∙◌, sym, rules}
use Rattle.prompt_state.proofs.PairLemmas.{owners_range, first_is, none_is}
use Rattle.prompt_state.proofs.owned.first_of.Goals as goal

-- the range has the owner's pairs
pub returns-in-Some-clause-found : goal.returns-in-Some-clause-found
returns-in-Some-clause-found c =
    let listed = sym (owners_range c.args.owner _ _ c.args.pairs.now.keys c.range.result c.new.ensures.start c.new.ensures.end (c.range.ensures.between (search rules)) c.requires) in
    first_is c.args.owner c.in-Some.pair.now c.next.new.self c.args.pairs.now.keys (listed ∙ c.in-Some.ensures.steps)

pub returns-in-None-clause-none : goal.returns-in-None-clause-none
returns-in-None-clause-none c =
    let listed = sym (owners_range c.args.owner _ _ c.args.pairs.now.keys c.range.result c.new.ensures.start c.new.ensures.end (c.range.ensures.between (search rules)) c.requires) in
    none_is c.args.owner c.args.pairs.now.keys (listed ∙ c.in-None.ensures.steps.0)
