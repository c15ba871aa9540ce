-- The rows that pairs stand for: a filter of rows is the rows of a filter of pairs.
use Rattle.std.proofs.Common.{◌≡◌, ℕ, Bool, true, false, nat_le, nat_lt, List, [], ◌∷◌, ◌++◌, length, filter, map, refl, ap, ◌∙◌, sym}
use Rattle.std.specs.List.{list_any}
use Rattle.std.proofs.lemmas.List.{map-append, length-map}
use Rattle.session_table.specs.declared.row.SessionRow.{SessionRow}
use Rattle.session_table.specs.Keys.{row_of}

-- a filter of rows
pub filter-rows : (p : SessionRow → Bool) (keys : List (ℕ × ℕ)) → map row_of (filter (λ key. p (row_of key)) keys) ≡ filter p (map row_of keys)
filter-rows p [] = refl
filter-rows p (k ∷ ks) =
    let step : (b : Bool) → p (row_of k) ≡ b → map row_of (filter (λ key. p (row_of key)) (k ∷ ks)) ≡ filter p (map row_of (k ∷ ks)) =
    elim [
      | true ↦ λ is. rw is (ap (λ t. row_of k ∷ t) (filter-rows p ks))
      | false ↦ λ is. rw is (filter-rows p ks)
    ] in
    step (p (row_of k)) refl

-- how many rows pass
pub length-filter_rows : (p : SessionRow → Bool) (keys : List (ℕ × ℕ)) → length (filter (λ key. p (row_of key)) keys) ≡ length (filter p (map row_of keys))
length-filter_rows p keys = sym (length-map (filter (λ key. p (row_of key)) keys) row_of) ∙ ap length (filter-rows p keys)

-- whether a row passes
pub list_any-rows : (p : SessionRow → Bool) (keys : List (ℕ × ℕ)) → list_any (λ key. p (row_of key)) keys ≡ list_any p (map row_of keys)
list_any-rows p [] = refl
list_any-rows p (k ∷ ks) = rw (list_any-rows p ks) refl

-- the rows with one more
pub rows_added : (owner next : ℕ) (keys : List (ℕ × ℕ)) →
    map row_of (filter (λ key. nat_le key.0 owner) keys ++ (owner, next) ∷ filter (λ key. nat_lt owner key.0) keys)
    ≡ filter (λ row. nat_le row.owner.0 owner) (map row_of keys) ++ row_of (owner, next) ∷ filter (λ row. nat_lt owner row.owner.0) (map row_of keys)
rows_added owner next keys =
    map-append row_of (filter (λ key. nat_le key.0 owner) keys) ((owner, next) ∷ filter (λ key. nat_lt owner key.0) keys)
    ∙ ap (λ t. t ++ row_of (owner, next) ∷ map row_of (filter (λ key. nat_lt owner key.0) keys)) (filter-rows (λ row. nat_le row.owner.0 owner) keys)
    ∙ ap (λ t. filter (λ row. nat_le row.owner.0 owner) (map row_of keys) ++ row_of (owner, next) ∷ t) (filter-rows (λ row. nat_lt owner row.owner.0) keys)
