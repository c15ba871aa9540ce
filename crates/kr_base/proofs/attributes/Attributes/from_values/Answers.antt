use Rattle.std.proofs.Common.{◌≡◌, subst, rules}
use Rattle.std.specs.BTreeMap.{IsFromIterResult}
use Rattle.std.specs.Cmp.Lexicographic.{slice_cmp}
use Rattle.std.specs.Ordering.{nat_cmp}
use Rattle.kr_base.specs.Attributes.{IsInOrder}
use Rattle.kr_base.proofs.AttributeLemmas.{Gathers-from_map}
use Rattle.kr_base.proofs.OrderedLemmas.{Gathers-itself}
use Rattle.kr_base.proofs.attributes.Attributes.from_values.Goals as goal

pub returns-then-is_in_order : goal.returns-then-is_in_order
returns-then-is_in_order c = Gathers-itself c.args.pairs.items (subst (λ xs. IsInOrder xs) c.as_slice.ensures.value (c.is_in_order.ensures c.if-is_in_order.true))

pub returns : goal.returns
returns c =
    let entries : c.in_ok-collect.field-0.items ≡ c.in_ok-gathered.gathered.entries = search rules in
    let made : IsFromIterResult (slice_cmp nat_cmp) c.args.pairs.items c.in_ok-gathered.gathered = search rules in
    rw entries (Gathers-from_map c.args.pairs.items c.in_ok-gathered.gathered made)
