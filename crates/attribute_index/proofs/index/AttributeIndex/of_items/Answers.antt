use Rattle.std.proofs.Common.{◌∙◌}
use Rattle.attribute_index.proofs.index.AttributeIndex.of_items.Goals as goal

pub returns : goal.returns
returns c =
    let made = rw c.as_slice.ensures.value at c.in_ok-names.ensures in
    record {
      rise = made.rise;
      each = λ n t x. made.each n t x ∙ c.in_ok-entries.ensures n t x;
      all_rise = c.in_ok-all_ids.ensures.rise;
      all = c.in_ok-all_ids.ensures.each;
    }
