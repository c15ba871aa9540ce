use Rattle.std.proofs.Common.{◌≡◌, ℕ, List, ◌++◌, codes, decimal, subst, sym, ◌∙◌}
use Rattle.kr_base.specs.Text.{IsText}
use Rattle.load_plan.proofs.PartLemmas.{label_text}
use Rattle.load_plan.proofs.parts.label_of.Goals as goal

-- the bytes are a text
pub unreachable-requires : goal.unreachable-requires
unreachable-requires c =
    let bytes : c.extend_from_slice-2.new.self.items ≡ codes "item " ++ decimal c.args.item =
    c.in_ok-extend_from_slice-2.ensures.items
    ∙ (λ i. (c.in_ok-extend_from_slice.ensures.items ∙ (λ j. c.in_ok-bytes.ensures.items j ++ c.as_slice.ensures j)) i ++ (c.as_bytes.ensures.value ∙ c.of_number-digits.ensures) i) in
    let some = c.in-None.ensures.text.1 (subst IsText (sym bytes) (label_text c.args.item c.ranges.item.fits)) in
    cc
