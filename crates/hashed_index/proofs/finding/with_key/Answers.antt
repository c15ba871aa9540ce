use Rattle.std.proofs.Common.{◌-◌, length, drop, take, rules}
use Rattle.std.proofs.Math.Dec.{leb, ltb}
use Rattle.std.proofs.lemmas.List.Sorted.{IsNonDecreasingBy-drop, IsNonDecreasingBy-take, IsPartitionPoint-from_clause, IsPartitionedBy-leb, IsPartitionedBy-ltb}
use Rattle.hashed_index.specs.declared.entries.Entry.{Entry}
use Rattle.hashed_index.proofs.EntryLemmas.{together_with}
use Rattle.hashed_index.proofs.finding.with_key.Goals as goal

pub returns : goal.returns
returns c =
    let xs = c.args.entries.now in
    let k = c.args.key in
    let i = c.partition_point-first.result in
    let rest = take (length xs - i) (drop i xs) in
    let up = IsNonDecreasingBy-take (λ (e : Entry). e.key) (length xs - i) _ (IsNonDecreasingBy-drop (λ (e : Entry). e.key) i xs c.requires) in
    let first = IsPartitionPoint-from_clause (λ (e : Entry). ltb e.key k) xs i c.partition_point-first.ensures.partitioned (IsPartitionedBy-ltb (λ (e : Entry). e.key) xs k c.requires) (λ a r f called. (search rules, search rules)) in
    let count = IsPartitionPoint-from_clause (λ (e : Entry). leb e.key k) rest c.partition_point-count.result c.partition_point-count.ensures.partitioned (IsPartitionedBy-leb (λ (e : Entry). e.key) rest k up) (λ a r f called. (search rules, search rules)) in
    together_with xs k i c.partition_point-count.result c.partition_point-first.ensures.bound first c.partition_point-count.ensures.bound count
