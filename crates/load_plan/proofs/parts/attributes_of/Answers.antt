use Rattle.std.proofs.Common.{◌≡◌, ℕ, List, [], ◌∷◌, ◌++◌, map, codes, decimal, ap, subst, ◌∙◌}
use Rattle.std.proofs.lemmas.Result.{IfOk-weaker}
use Rattle.kr_base.specs.declared.attributes.AttrValue.TheVariants as value
use Rattle.kr_base.specs.Attributes.{Gathers}
use Rattle.load_plan.specs.Words.{group_of}
use Rattle.load_plan.proofs.PartLemmas.{two_gathered}
use Rattle.load_plan.proofs.parts.attributes_of.Goals as goal

-- the two pairs are gathered as they are
pub returns : goal.returns
returns c =
    let group = decimal (group_of c.args.seed c.args.item) in
    let number = decimal c.args.item in
    let text : c.of_number.result ≡ group = c.of_number.ensures ∙ ap decimal c.group_of.ensures in
    let one : c.push.new.self.items ≡ (codes "group", group) ∷ [] =
    c.in_ok-push.ensures.items ∙ (λ i. c.in_ok-pairs.ensures.items i ++ (c.in_ok-group_name.ensures i, text i) ∷ []) in
    let two : c.push-2.new.self.items ≡ (codes "group", group) ∷ (codes "number", number) ∷ [] =
    c.in_ok-push-2.ensures.items ∙ (λ i. one i ++ (c.in_ok-number_name.ensures i, c.of_number-2.ensures i) ∷ []) in
    IfOk-weaker c.from_pairs.result _ _ (λ attributes is.
    two_gathered group number attributes (subst (λ l. Gathers (map (λ (p : List ℕ × List ℕ). (p.0, value.Text p.1)) l) attributes) two is)) c.from_pairs.ensures
