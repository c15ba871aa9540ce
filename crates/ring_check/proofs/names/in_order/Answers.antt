use Rattle.std.proofs.Common.{◌≡◌, ◌↔◌, List, ℕ, Contains, sym, subst, rules}
use Rattle.std.specs.BTreeSet.{IsFromIterResult}
use Rattle.std.specs.Cmp.Lexicographic.{slice_cmp}
use Rattle.std.specs.Ordering.{nat_cmp}
use Rattle.folder_store.proofs.NameLemmas.{same_members}
use Rattle.ring_check.proofs.names.in_order.Goals as goal

pub returns-clause-same : goal.returns-clause-same
returns-clause-same c =
    let keys : c.in_ok-collect.field-0.items ≡ c.in_ok-sorted.sorted.keys = search rules in
    let made : IsFromIterResult (slice_cmp nat_cmp) c.args.names.items c.in_ok-sorted.sorted = search rules in
    subst (λ l. (name : List ℕ) → Contains l name ↔ Contains c.args.names.items name) (sym keys) (same_members c.args.names.items c.in_ok-sorted.sorted made)
