use Rattle.std.proofs.Common.{◌≡◌, ℕ, List, [], ◌∷◌, ◌++◌, map, codes, decimal, subst, ◌∙◌}
use Rattle.std.proofs.lemmas.Result.{IfOk-weaker}
use Rattle.kr_base.specs.declared.attributes.AttrValue.TheVariants as value
use Rattle.kr_base.specs.Attributes.{Gathers}
use Rattle.load_plan.proofs.PartLemmas.{one_gathered}
use Rattle.load_plan.proofs.parts.wanted.Goals as goal

-- one pair is gathered as it is
pub returns : goal.returns
returns c =
    let pair : c.push.new.self.items ≡ (codes "group", decimal c.args.group) ∷ [] =
    c.in_ok-push.ensures.items ∙ (λ i. c.in_ok-pairs.ensures.items i ++ (c.in_ok-group_name.ensures i, c.of_number.ensures i) ∷ []) in
    IfOk-weaker c.from_pairs.result _ _ (λ attributes is.
    one_gathered (decimal c.args.group) attributes (subst (λ l. Gathers (map (λ (p : List ℕ × List ℕ). (p.0, value.Text p.1)) l) attributes) pair is)) c.from_pairs.ensures
