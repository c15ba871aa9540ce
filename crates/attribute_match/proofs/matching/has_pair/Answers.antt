use Rattle.std.proofs.Common.{sym, ap, ◌∙◌}
use Rattle.attribute_match.specs.Match.{text_of}
use Rattle.attribute_match.proofs.MatchLemmas.{shown_at, has_pair-value_at}
use Rattle.attribute_match.proofs.matching.has_pair.Goals as goal

pub returns-in-Some : goal.returns-in-Some
returns-in-Some c =
    let found = rw (c.in-Some.is, c.as_str.ensures.value) at c.get.ensures in
    c.is_shown_alike.ensures ∙ ap (shown_at (text_of c.args.value.now)) found ∙ sym (has_pair-value_at c.args.name.now (text_of c.args.value.now) c.args.item.now c.as_slice-pairs.ensures.ordered)

pub returns-in-None : goal.returns-in-None
returns-in-None c =
    let found = rw (c.in-None.is, c.as_str.ensures.value) at c.get.ensures in
    ap (shown_at (text_of c.args.value.now)) found ∙ sym (has_pair-value_at c.args.name.now (text_of c.args.value.now) c.args.item.now c.as_slice-pairs.ensures.ordered)
