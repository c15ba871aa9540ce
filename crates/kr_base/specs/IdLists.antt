-- Ids in rising order, as a filter of rows leaves them, and where they are kept.
use Rattle.std.specs.Prelude.{◌≡◌, ℕ, ◌<◌, Bool, List, [], ◌∷◌, ◌++◌, length, map, filter, not, nat_eq, nat_lt, slice_index, take}
use Rattle.std.specs.List.{AllByRecursion, concat, list_any}
use Rattle.std.specs.List.Sorted.{IsStrictlySortedBy}
use Rattle.std.specs.Ordering.{nat_cmp}
use Rattle.kr_base.specs.declared.id_chunks.Chunk.{Chunk}
use Rattle.kr_base.specs.declared.id_chunks.Key.{Key}
use Rattle.kr_base.specs.declared.id_chunks.Key.TheVariants as key
use Rattle.kr_base.specs.declared.id_list.Held.{Held}
use Rattle.kr_base.specs.declared.id_list.Held.TheVariants as held

-- the ids rise, and each has 32 bits
pub record IsIdList (ids : List ℕ) : Type 0 where
  pub rising : IsStrictlySortedBy nat_cmp ids
  pub small : AllByRecursion (λ id. id < 4294967296) ids

-- whether the id is one of them
abbrev pub has_id : List ℕ → ℕ → Bool
has_id ids id = list_any (λ other. nat_eq other id) ids

-- the ids with this one, at its position in the order
abbrev pub with_id : ℕ → List ℕ → List ℕ
with_id id ids = filter (λ other. nat_lt other id) ids ++ id ∷ filter (λ other. nat_lt id other) ids

-- the ids without this one
abbrev pub without_id : ℕ → List ℕ → List ℕ
without_id id ids = filter (λ other. not (nat_eq other id)) ids

-- the ids of each chunk
abbrev pub parts : List Chunk → List (List ℕ)
parts chunks = map (λ chunk. chunk.ids.items) chunks

-- the ids of all chunks, one after the other
abbrev pub ids_in : List Chunk → List ℕ
ids_in chunks = concat (parts chunks)

-- what a search among chunks compares: their first ids, or how many ids come before each
abbrev pub keys : Key → List Chunk → List ℕ
keys key.First chunks = map (λ chunk. slice_index chunk.ids.items 0) chunks
keys key.Before chunks = map (λ chunk. chunk.before) chunks

-- each chunk has an id
abbrev pub IsFilled : List (List ℕ) → Type 0
IsFilled ids = AllByRecursion (λ part. 0 < length part) ids

-- each number is the number of ids before that chunk
abbrev pub IsCounted : List ℕ → List (List ℕ) → Type 0
IsCounted before ids = (place : ℕ) → place < length ids → slice_index before place ≡ length (concat (take place ids))

-- what is always true of a list in chunks
pub record IsLaid (chunks : List Chunk) : Type 0 where
  pub ids : IsIdList (ids_in chunks)
  pub filled : IsFilled (parts chunks)
  pub counted : IsCounted (keys key.Before chunks) (parts chunks)

-- the ids, wherever they are kept
abbrev pub held_ids : Held → List ℕ
held_ids (held.One id) = id ∷ []
held_ids (held.Many chunks) = ids_in chunks.items

-- what the type of a list of ids guarantees of them
abbrev pub IsHeld : Held → Type 0
IsHeld (held.One id) = IsIdList (id ∷ [])
IsHeld (held.Many chunks) = IsLaid chunks.items
