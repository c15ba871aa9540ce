use Rattle.std.proofs.Common.{◌≡◌, ℕ, ◌<◌, length, take, slice_index}
use Rattle.std.specs.List.{concat}
use Rattle.kr_base.specs.declared.id_chunks.Key.TheVariants as key
use Rattle.kr_base.specs.IdLists.{keys, parts}
use Rattle.kr_base.proofs.id_chunks.count.Given as goal

abbrev pub invariant-loop-place : goal.invariant-loop-place
invariant-loop-place l =
    (parts l.chunks.items ≡ parts l.initial.chunks.items)
    × (l.total ≡ length (concat (take l.place (parts l.initial.chunks.items))))
    × ((i : ℕ) → i < l.place → slice_index (keys key.Before l.chunks.items) i ≡ length (concat (take i (parts l.initial.chunks.items))))
