use Rattle.std.proofs.Common.{◌≡◌, ◌∙◌, sym, ap, length, rules}
use Rattle.prompt_state.proofs.PairLemmas.{owners_range, length-numbers}
use Rattle.prompt_state.proofs.owned.count_of.Goals as goal

-- the range has the owner's pairs
pub returns : goal.returns
returns c =
    let counted : c.count.result ≡ length c.range.result = search rules in
    counted ∙ ap length (owners_range c.args.owner _ _ c.args.pairs.now.keys c.range.result c.new.ensures.start c.new.ensures.end (c.range.ensures.between (search rules)) c.requires) ∙ sym (length-numbers c.args.owner c.args.pairs.now.keys)
