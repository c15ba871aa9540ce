use Rattle.std.proofs.Common.{◌≡◌, ◌||◌, ℕ, drop}
use Rattle.kr_base.specs.IdLists.{IsIdList, has_id}
use Rattle.attribute_index.specs.Entries.{some_is}
use Rattle.attribute_index.proofs.index.all_ids.Given as goal

-- the ids so far, and the items that are to come
abbrev pub invariant-loop-place : goal.invariant-loop-place
invariant-loop-place l =
    IsIdList l.ids ×
    ((id : ℕ) → (has_id l.ids id || some_is (drop l.place l.items) id) ≡ some_is l.items id)
