use Rattle.std.proofs.Common.{◌≡◌, ◌∙◌, ap, length, rules}
use Rattle.session_table.proofs.KeyLemmas.{owners_range}
use Rattle.session_table.proofs.keys.count_of.Goals as goal

-- the range has the owner's pairs
pub returns : goal.returns
returns c =
    let counted : c.count.result ≡ length c.range.result = search rules in
    counted ∙ ap length (owners_range c.args.owner _ _ c.args.keys.now.keys c.range.result c.new.ensures.start c.new.ensures.end (c.range.ensures.between (search rules)) c.requires)
