use Rattle.std.proofs.Common.{subst, rules}
use Rattle.std.specs.List.Sorted.{IsPermutation}
use Rattle.std.proofs.lemmas.List.Sorted.{IsNonDecreasingBy-from_sort_by_key}
use Rattle.hashed_index.specs.declared.entries.Entry.{Entry}
use Rattle.hashed_index.proofs.entries.sorted_entries.Goals as goal

pub returns : goal.returns
returns c =
    let sorted = c.sort_unstable_by_key.new.self.items in
    record {
      same = subst (λ entries. IsPermutation entries sorted) c.in_ok-entries.ensures c.sort_unstable_by_key.ensures.permutation;
      by_key = IsNonDecreasingBy-from_sort_by_key (λ (e : Entry). e.key) sorted c.sort_unstable_by_key.ensures.sorted (λ a r q k. (search rules, search rules));
    }
