-- Rising ids in parts, one after the other: the part in which an id belongs, and what a change of it does to the whole.
use Rattle.std.proofs.Common.{◌≡◌, ℕ, ◌+◌, ◌-◌, ◌<◌, ◌≤◌, zero, suc, true, false, List, [], ◌∷◌, ◌++◌, length, map, take, drop, get_or, slice_index, slice_set, ◌==◌, refl, sym, ap, subst, ◌∙◌, arith, inl, inr}
use Rattle.std.specs.List.Sorted.{IsStrictlySortedBy}
use Rattle.std.specs.List.{concat, insert, remove}
use Rattle.std.proofs.lemmas.Bool.{cases_lt, eqb-true}
use Rattle.std.proofs.lemmas.List.{append-nil, append_assoc, get_or-append-add, get_or_append_left, take-append-drop, drop_more, take_more, drop_all, set_split, length-append, length-take-le, length-drop, length-set, take-set-le, set-get_or, get_or-set_same, get_or-set_other, length-map, map-set}
use Rattle.std.proofs.lemmas.List.Edits.{length-insert, get_or-insert_below}
use Rattle.std.proofs.lemmas.List.Folds.{concat-append}
use Rattle.kr_base.specs.IdLists.{IsIdList, IsFilled, IsCounted, IsLaid, has_id, ids_in, keys, parts, with_id, without_id}
use Rattle.kr_base.specs.declared.id_chunks.Chunk.{Chunk}
use Rattle.kr_base.specs.declared.id_chunks.Key.TheVariants as key
use Rattle.kr_base.proofs.IdLemmas.{Rises, AllBelow, AllAbove, all-weaker, rises-right, rises-left, below-middle, above-head, with-within, without-within, has-within, few, less_from_below}

-- ---- positions

pub map-at : {X : Type 0} (f : X → ℕ) (xs : List X) (k : ℕ) (d : X) → k < length xs → get_or (map f xs) k 0 ≡ f (get_or xs k d)
map-at f [] k d lt = absurd (omega (arith, lt))
map-at f (x ∷ xs) zero d lt = refl
map-at f (x ∷ xs) (suc k) d lt = map-at f xs k d (omega (arith, lt))

pub filled-at : (ps : List (List ℕ)) (k : ℕ) → IsFilled ps → k < length ps → 0 < length (get_or ps k [])
filled-at [] k f lt = absurd (omega (arith, lt))
filled-at (p ∷ ps) zero f lt = f.0
filled-at (p ∷ ps) (suc k) f lt = filled-at ps k f.1 (omega (arith, lt))

cons-split : (xs : List ℕ) → 0 < length xs → xs ≡ get_or xs 0 0 ∷ drop 1 xs
cons-split [] lt = absurd (omega (arith, lt))
cons-split (x ∷ xs) lt = refl

pub filled-take : (k : ℕ) (ps : List (List ℕ)) → IsFilled ps → IsFilled (take k ps)
filled-take zero ps f = tt
filled-take (suc k) [] f = tt
filled-take (suc k) (p ∷ ps) f = (f.0, filled-take k ps f.1)

pub filled-drop : (k : ℕ) (ps : List (List ℕ)) → IsFilled ps → IsFilled (drop k ps)
filled-drop zero ps f = f
filled-drop (suc k) [] f = tt
filled-drop (suc k) (p ∷ ps) f = filled-drop k ps f.1

pub filled-append : (ps qs : List (List ℕ)) → IsFilled ps → IsFilled qs → IsFilled (ps ++ qs)
filled-append [] qs f g = g
filled-append (p ∷ ps) qs f g = (f.0, filled-append ps qs f.1 g)

pub filled-set : (ps : List (List ℕ)) (k : ℕ) (p : List ℕ) → IsFilled ps → 0 < length p → IsFilled (slice_set ps k p)
filled-set [] k p f some = tt
filled-set (q ∷ ps) zero p f some = (some, f.1)
filled-set (q ∷ ps) (suc k) p f some = (f.0, filled-set ps k p f.1 some)

-- ---- the part at a position, with what comes before it and after it

module _ (ps : List (List ℕ)) (k : ℕ) (lt : k < length ps) where
  abbrev middle : List ℕ
  middle = get_or ps k []

  abbrev before : List ℕ
  before = concat (take k ps)

  abbrev after : List ℕ
  after = concat (drop (k + 1) ps)

  pub split-at : concat ps ≡ before ++ (middle ++ after)
  split-at =
      ap concat (sym (take-append-drop k ps)) ∙ concat-append (take k ps) (drop k ps)
      ∙ ap (λ t. before ++ concat t) (drop_more ps k [] lt)

  pub concat-set : (p : List ℕ) → concat (slice_set ps k p) ≡ before ++ (p ++ after)
  concat-set p =
      let next : suc k ≡ k + 1 = omega arith in
      ap concat (set_split ps k p lt) ∙ concat-append (take k ps) (p ∷ drop (suc k) ps) ∙ ap (λ n. before ++ (p ++ concat (drop n ps))) next

  pub concat-removed : concat (remove ps k) ≡ before ++ after
  concat-removed =
      let next : suc k ≡ k + 1 = omega arith in
      concat-append (take k ps) (drop (suc k) ps) ∙ ap (λ n. before ++ concat (drop n ps)) next

  pub sum-at : length (concat ps) ≡ length (concat (take k ps)) + (length (get_or ps k []) + length (concat (drop (k + 1) ps)))
  sum-at = ap length split-at ∙ length-append (concat (take k ps)) (get_or ps k [] ++ concat (drop (k + 1) ps)) ∙ ap (λ n. length (concat (take k ps)) + n) (length-append (get_or ps k []) (concat (drop (k + 1) ps)))

  pub next-count : length (concat (take (k + 1) ps)) ≡ length (concat (take k ps)) + length (get_or ps k [])
  next-count =
      ap (λ t. length (concat t)) (take_more ps k [] lt) ∙ ap length (concat-append (take k ps) (get_or ps k [] ∷ []))
      ∙ ap (λ t. length (concat (take k ps) ++ t)) (append-nil (get_or ps k [])) ∙ length-append (concat (take k ps)) (get_or ps k [])

  module _ (rises : Rises (concat ps)) (filled : IsFilled ps) where
    rises-at : Rises (before ++ (middle ++ after))
    rises-at = subst Rises split-at rises

    pub middle-rises : Rises middle
    middle-rises = rises-left middle after (rises-right before (middle ++ after) rises-at)

    some-in : middle ≡ get_or middle 0 0 ∷ drop 1 middle
    some-in = cons-split middle (filled-at ps k filled lt)

    all-before : (id : ℕ) → get_or middle 0 0 ≤ id → AllBelow id before
    all-before id le =
        let whole : Rises (before ++ get_or middle 0 0 ∷ (drop 1 middle ++ after)) = subst (λ t. Rises (before ++ (t ++ after))) some-in rises-at in
        all-weaker (λ x. x < get_or middle 0 0) (λ x. x < id) (λ x less. omega (arith, less, le)) before
        (below-middle before (get_or middle 0 0) (drop 1 middle ++ after) whole)

    all-after : (id : ℕ) → id < get_or middle 0 0 → AllAbove id (middle ++ after)
    all-after id less =
        let part : Rises (middle ++ after) = rises-right before (middle ++ after) rises-at in
        let whole : Rises (get_or middle 0 0 ∷ (drop 1 middle ++ after)) = subst (λ t. Rises (t ++ after)) some-in part in
        let more = all-weaker (λ x. get_or middle 0 0 < x) (λ x. id < x) (λ x above. omega (arith, less, above)) (drop 1 middle ++ after)
        (above-head (get_or middle 0 0) (drop 1 middle ++ after) whole) in
        subst (λ t. AllAbove id (t ++ after)) (sym some-in) (less, more)

-- ---- the part in which an id belongs

module _ (ps : List (List ℕ)) (k : ℕ) (lt : k < length ps) (rises : Rises (concat ps)) (filled : IsFilled ps) (id : ℕ) (from : 0 < k → get_or (get_or ps k []) 0 0 ≤ id) (to : k + 1 < length ps → id < get_or (get_or ps (k + 1) []) 0 0) where
  low : AllBelow id (concat (take k ps))
  low =
      elim (cases_lt 0 k) [
        | inl some ↦ all-before ps k lt rises filled id (from some)
        | inr none ↦ let zero_is : k ≡ 0 = omega (arith, none) in subst (λ n. AllBelow id (concat (take n ps))) (sym zero_is) tt
      ]

  high : AllAbove id (concat (drop (k + 1) ps))
  high =
      elim (cases_lt (k + 1) (length ps)) [
        | inl more ↦ rw (drop_more ps (k + 1) [] more) (all-after ps (k + 1) more rises filled id (to more))
        | inr none ↦ rw (drop_all (k + 1) ps none) tt
      ]

  pub with-at : concat (slice_set ps k (with_id id (get_or ps k []))) ≡ with_id id (concat ps)
  with-at = concat-set ps k lt (with_id id (get_or ps k [])) ∙ sym (ap (with_id id) (split-at ps k lt) ∙ with-within id (concat (take k ps)) (get_or ps k []) (concat (drop (k + 1) ps)) low high)

  pub without-at : concat (slice_set ps k (without_id id (get_or ps k []))) ≡ without_id id (concat ps)
  without-at = concat-set ps k lt (without_id id (get_or ps k [])) ∙ sym (ap (without_id id) (split-at ps k lt) ∙ without-within id (concat (take k ps)) (get_or ps k []) (concat (drop (k + 1) ps)) low high)

  pub has-at : has_id (get_or ps k []) id ≡ has_id (concat ps) id
  has-at = sym (ap (λ t. has_id t id) (split-at ps k lt) ∙ has-within id (concat (take k ps)) (get_or ps k []) (concat (drop (k + 1) ps)) low high)

-- the first id of a part, as a search reads it
pub first-at : {X : Type 0} (f : X → List ℕ) (xs : List X) (k : ℕ) → get_or (map (λ x. get_or (f x) 0 0) xs) k 0 ≡ get_or (get_or (map f xs) k []) 0 0
first-at f [] k = refl
first-at f (x ∷ xs) zero = refl
first-at f (x ∷ xs) (suc k) = first-at f xs k

some-with : (id : ℕ) (xs ys : List ℕ) → 0 < length (xs ++ id ∷ ys)
some-with id [] ys = omega arith
some-with id (x ∷ xs) ys = omega (arith, some-with id xs ys)

pub filled-with : (ps : List (List ℕ)) (k id : ℕ) → IsFilled ps → IsFilled (slice_set ps k (with_id id (get_or ps k [])))
filled-with ps k id f = filled-set ps k (with_id id (get_or ps k [])) f (some-with id _ _)

-- ---- the part that contains an id at a position

module _ (counts : List ℕ) (ps : List (List ℕ)) (k : ℕ) (lt : k < length ps) (counted : IsCounted counts ps) where
  at-count : get_or counts k 0 ≡ length (concat (take k ps))
  at-count = counted k lt

  -- of the last part
  pub total : k + 1 ≡ length ps → get_or counts k 0 + length (get_or ps k []) ≡ length (concat ps)
  total last =
      let none : concat (drop (k + 1) ps) ≡ [] = ap concat (drop_all (k + 1) ps (omega (arith, last))) in
      let empty : length (concat (drop (k + 1) ps)) ≡ 0 = ap length none in
      omega (arith, at-count, sum-at ps k lt, empty)

  module _ (place : ℕ) (from : 0 < k → get_or counts k 0 ≤ place) (to : k + 1 < length ps → place < get_or counts (k + 1) 0) (within : place < length (concat ps)) where
    pub starts : get_or counts k 0 ≤ place
    starts =
        elim (cases_lt 0 k) [
          | inl some ↦ from some
          | inr none ↦
              let zero_is : k ≡ 0 = omega (arith, none) in
              let first : length (concat (take k ps)) ≡ 0 = ap (λ n. length (concat (take n ps))) zero_is in
              omega (arith, at-count, first)
        ]

    pub ends : place - get_or counts k 0 < length (get_or ps k [])
    ends =
        elim (cases_lt (k + 1) (length ps)) [
          | inl more ↦ omega (arith, to more, counted (k + 1) more, at-count, next-count ps k lt, starts)
          | inr none ↦ let last : k + 1 ≡ length ps = omega (arith, none, lt) in omega (arith, total last, within, starts)
        ]

    pub found : get_or (get_or ps k []) (place - get_or counts k 0) 0 ≡ get_or (concat ps) place 0
    found =
        let offset : place ≡ length (concat (take k ps)) + (place - get_or counts k 0) = omega (arith, starts, at-count) in
        let whole = ap (λ t. get_or t place 0) (split-at ps k lt) in
        let shifted = ap (λ n. get_or (concat (take k ps) ++ (get_or ps k [] ++ concat (drop (k + 1) ps))) n 0) offset in
        let inside = get_or-append-add (concat (take k ps)) (get_or ps k [] ++ concat (drop (k + 1) ps)) (place - get_or counts k 0) 0 in
        let own = get_or_append_left (get_or ps k []) (concat (drop (k + 1) ps)) 0 (place - get_or counts k 0) ends in
        sym (whole ∙ shifted ∙ inside ∙ own)

-- ---- chunks

pub part-of : (cs : List Chunk) (k : ℕ) (d : Chunk) → k < length cs → (get_or cs k d).ids.items ≡ get_or (parts cs) k []
part-of [] k d lt = absurd (omega (arith, lt))
part-of (x ∷ cs) zero d lt = refl
part-of (x ∷ cs) (suc k) d lt = part-of cs k d (omega (arith, lt))

pub in-parts : (cs : List Chunk) (k : ℕ) → k < length cs → k < length (parts cs)
in-parts cs k lt = omega (arith, lt, length-map cs (λ (c : Chunk). c.ids.items))

module _ (cs : List Chunk) (rises : Rises (ids_in cs)) (filled : IsFilled (parts cs)) (k : ℕ) (lt : k < length cs) where
  pub part-rises : Rises (get_or (parts cs) k [])
  part-rises = middle-rises (parts cs) k (in-parts cs k lt) rises filled

  module _ (id : ℕ) (from : 0 < k → slice_index (keys key.First cs) k ≤ id) (to : k + 1 < length cs → id < slice_index (keys key.First cs) (k + 1)) where
    from-part : 0 < k → get_or (get_or (parts cs) k []) 0 0 ≤ id
    from-part some = subst (λ n. n ≤ id) (first-at (λ (c : Chunk). c.ids.items) cs k) (from some)

    to-part : k + 1 < length (parts cs) → id < get_or (get_or (parts cs) (k + 1) []) 0 0
    to-part more =
        let further : k + 1 < length cs = omega (arith, more, length-map cs (λ (c : Chunk). c.ids.items)) in
        subst (λ n. id < n) (first-at (λ (c : Chunk). c.ids.items) cs (k + 1)) (to further)

    pub with-place : concat (slice_set (parts cs) k (with_id id (get_or (parts cs) k []))) ≡ with_id id (ids_in cs)
    with-place = with-at (parts cs) k (in-parts cs k lt) rises filled id from-part to-part

    pub without-place : concat (slice_set (parts cs) k (without_id id (get_or (parts cs) k []))) ≡ without_id id (ids_in cs)
    without-place = without-at (parts cs) k (in-parts cs k lt) rises filled id from-part to-part

    pub has-place : has_id (get_or (parts cs) k []) id ≡ has_id (ids_in cs) id
    has-place = has-at (parts cs) k (in-parts cs k lt) rises filled id from-part to-part

-- the ids after a change of one part
pub ids-changed : (ids new : List ℕ) → IsIdList ids → new ≡ ids → IsIdList new
ids-changed ids new is same = subst IsIdList (sym same) is

pub filled-removed : (ps : List (List ℕ)) (k : ℕ) → IsFilled ps → IsFilled (remove ps k)
filled-removed ps k f = filled-append (take k ps) (drop (suc k) ps) (filled-take k ps f) (filled-drop (suc k) ps f)

pub removed-set : (ps : List (List ℕ)) (k : ℕ) (p : List ℕ) → remove (slice_set ps k p) k ≡ remove ps k
removed-set [] k p = refl
removed-set (q ∷ ps) zero p = refl
removed-set (q ∷ ps) (suc k) p = ap (λ t. q ∷ t) (removed-set ps k p)

-- ---- writing a chunk

module _ (cs : List Chunk) (k : ℕ) (lt : k < length cs) (c new : Chunk) (is : c ≡ get_or cs k c) where
  own-part : c.ids.items ≡ get_or (parts cs) k []
  own-part = ap (λ (x : Chunk). x.ids.items) is ∙ part-of cs k c lt

  pub set-part : (f : List ℕ → List ℕ) → new.ids.items ≡ f c.ids.items → parts (slice_set cs k new) ≡ slice_set (parts cs) k (f (get_or (parts cs) k []))
  set-part f e = map-set (λ (x : Chunk). x.ids.items) cs k new ∙ ap (λ p. slice_set (parts cs) k p) (e ∙ ap f own-part)

  pub same-part : new.ids.items ≡ c.ids.items → parts (slice_set cs k new) ≡ parts cs
  same-part e = set-part (λ p. p) e ∙ set-get_or (parts cs) k []

  pub same-before : new.before ≡ c.before → keys key.Before (slice_set cs k new) ≡ keys key.Before cs
  same-before e =
      let own : c.before ≡ get_or (keys key.Before cs) k 0 = ap (λ (x : Chunk). x.before) is ∙ sym (map-at (λ (x : Chunk). x.before) cs k c lt) in
      map-set (λ (x : Chunk). x.before) cs k new ∙ ap (λ n. slice_set (keys key.Before cs) k n) (e ∙ own) ∙ set-get_or (keys key.Before cs) k 0

  pub counted-more : (ps : List (List ℕ)) → new.before ≡ length (concat (take k ps)) → ((i : ℕ) → i < k → slice_index (keys key.Before cs) i ≡ length (concat (take i ps)))
      → (i : ℕ) → i < k + 1 → slice_index (keys key.Before (slice_set cs k new)) i ≡ length (concat (take i ps))
  counted-more ps e counted i less =
      let written = map-set (λ (x : Chunk). x.before) cs k new in
      elim (cases_lt i k) [
        | inl below ↦
            let other : i ≡ k → ⊥ = λ same. omega (arith, same, below) in
            ap (λ (t : List ℕ). get_or t i 0) written ∙ get_or-set_other (keys key.Before cs) k i new.before 0 other ∙ counted i below
        | inr least ↦
            let same : i ≡ k = omega (arith, least, less) in
            let in_range : k < length (keys key.Before cs) = omega (arith, lt, length-map cs (λ (x : Chunk). x.before)) in
            subst (λ j. slice_index (keys key.Before (slice_set cs k new)) j ≡ length (concat (take j ps))) (sym same)
            (ap (λ (t : List ℕ). get_or t k 0) written ∙ get_or-set_same (keys key.Before cs) k new.before 0 in_range ∙ e)
      ]

-- after a change of the last part alone, the numbers of ids before each part are what they were
pub counted-set : (counts : List ℕ) (ps : List (List ℕ)) (k : ℕ) (p : List ℕ) → length ps ≤ k + 1 → IsCounted counts ps → IsCounted counts (slice_set ps k p)
counted-set counts ps k p last counted = λ place lt.
    let within : place < length ps = omega (arith, lt, length-set ps k p) in
    counted place within ∙ ap (λ t. length (concat t)) (sym (take-set-le place ps k p (omega (arith, within, last))))

-- ---- splitting a chunk, and removing one

parts-insert : (cs : List Chunk) (i : ℕ) (c : Chunk) → parts (insert cs i c) ≡ insert (parts cs) i c.ids.items
parts-insert cs zero c = refl
parts-insert [] (suc i) c = refl
parts-insert (x ∷ cs) (suc i) c = ap (λ t. x.ids.items ∷ t) (parts-insert cs i c)

parts-remove : (cs : List Chunk) (i : ℕ) → parts (remove cs i) ≡ remove (parts cs) i
parts-remove [] zero = refl
parts-remove [] (suc i) = refl
parts-remove (x ∷ cs) zero = refl
parts-remove (x ∷ cs) (suc i) = ap (λ t. x.ids.items ∷ t) (parts-remove cs i)

split-parts : (ps : List (List ℕ)) (k h : ℕ) → k < length ps → concat (slice_set (insert ps (suc k) (drop h (get_or ps k []))) k (take h (get_or ps k []))) ≡ concat ps
split-parts [] k h lt = absurd (omega (arith, lt))
split-parts (p ∷ ps) zero h lt = sym (append_assoc (take h p) (drop h p) (concat ps)) ∙ ap (λ t. t ++ concat ps) (take-append-drop h p)
split-parts (p ∷ ps) (suc k) h lt = ap (λ t. p ++ t) (split-parts ps k h (omega (arith, lt)))

split-filled : (ps : List (List ℕ)) (k : ℕ) (one other : List ℕ) → 0 < length one → 0 < length other → IsFilled ps → IsFilled (slice_set (insert ps (suc k) other) k one)
split-filled [] zero one other a b f = (a, tt)
split-filled [] (suc k) one other a b f = (b, tt)
split-filled (p ∷ ps) zero one other a b f = (a, (b, f.1))
split-filled (p ∷ ps) (suc k) one other a b f = (f.0, split-filled ps k one other a b f.1)

module _ (cs inserted : List Chunk) (k h : ℕ) (lt : k < length cs) (upper : Chunk) (shown : List ℕ) (part : shown ≡ get_or (parts cs) k []) (own : upper.ids.items ≡ drop h shown) (put : inserted ≡ insert cs (k + 1) upper) where
  parts-inserted : parts inserted ≡ insert (parts cs) (suc k) (drop h (get_or (parts cs) k []))
  parts-inserted =
      let next : k + 1 ≡ suc k = omega arith in
      ap parts put ∙ ap (λ n. parts (insert cs n upper)) next ∙ parts-insert cs (suc k) upper ∙ ap (λ t. insert (parts cs) (suc k) t) (own ∙ ap (drop h) part)

  module _ (c new : Chunk) (is : c ≡ get_or inserted k c) (cut : new.ids.items ≡ take h c.ids.items) where
    lower : c.ids.items ≡ get_or (parts cs) k []
    lower =
        let longer : k < length inserted = omega (arith, lt, ap length put, length-insert cs (k + 1) upper (omega (arith, lt))) in
        let first : get_or (insert (parts cs) (suc k) (drop h (get_or (parts cs) k []))) k [] ≡ get_or (parts cs) k [] =
        get_or-insert_below (parts cs) (suc k) (drop h (get_or (parts cs) k [])) [] k (omega arith) (omega (arith, in-parts cs k lt)) in
        ap (λ (x : Chunk). x.ids.items) is ∙ part-of inserted k c longer ∙ ap (λ (t : List (List ℕ)). get_or t k []) parts-inserted ∙ first

    parts-split : parts (slice_set inserted k new) ≡ slice_set (insert (parts cs) (suc k) (drop h (get_or (parts cs) k []))) k (take h (get_or (parts cs) k []))
    parts-split =
        map-set (λ (x : Chunk). x.ids.items) inserted k new ∙ ap (λ t. slice_set t k new.ids.items) parts-inserted
        ∙ ap (λ p. slice_set (insert (parts cs) (suc k) (drop h (get_or (parts cs) k []))) k p) (cut ∙ ap (take h) lower)

    pub ids-split : ids_in (slice_set inserted k new) ≡ ids_in cs
    ids-split = ap concat parts-split ∙ split-parts (parts cs) k h (in-parts cs k lt)

    pub filled-split : 0 < h → h < length shown → IsFilled (parts cs) → IsFilled (parts (slice_set inserted k new))
    filled-split some more f =
        let size : length (get_or (parts cs) k []) ≡ length shown = ap length (sym part) in
        rw parts-split (split-filled (parts cs) k _ _ (omega (arith, some, more, size, length-take-le h (get_or (parts cs) k []) (omega (arith, more, size)))) (omega (arith, more, size, length-drop h (get_or (parts cs) k []))) f)

none-in : (xs : List ℕ) → (length xs == 0) ≡ true → xs ≡ []
none-in [] is = refl
none-in (x ∷ xs) is = absurd (omega (arith, eqb-true (length (x ∷ xs)) 0 is))

pub some-of : (xs : List ℕ) → (length xs == 0) ≡ false → 0 < length xs
some-of [] is = absurd cc
some-of (x ∷ xs) is = omega arith

filled-closed : (ps : List (List ℕ)) (k : ℕ) → IsFilled (remove ps k) → 0 < length (get_or ps k []) → IsFilled ps
filled-closed [] k f some = tt
filled-closed (p ∷ ps) zero f some = (some, f)
filled-closed (p ∷ ps) (suc k) f some = (f.0, filled-closed ps k f.1 some)

module _ (cs : List Chunk) (k : ℕ) (lt : k < length cs) (shown : List ℕ) (part : shown ≡ get_or (parts cs) k []) where
  pub ids-closed : (left : List Chunk) → left ≡ remove cs k → (length shown == 0) ≡ true → ids_in left ≡ ids_in cs
  ids-closed left is none =
      let empty : get_or (parts cs) k [] ≡ [] = sym part ∙ none-in shown none in
      ap ids_in is ∙ ap concat (parts-remove cs k) ∙ concat-removed (parts cs) k (in-parts cs k lt)
      ∙ sym (split-at (parts cs) k (in-parts cs k lt) ∙ ap (λ t. concat (take k (parts cs)) ++ (t ++ concat (drop (k + 1) (parts cs)))) empty)

  pub filled-left : (left : List Chunk) → left ≡ remove cs k → IsFilled (remove (parts cs) k) → IsFilled (parts left)
  filled-left left is f = subst IsFilled (sym (ap parts is ∙ parts-remove cs k)) f

  pub filled-whole : (length shown == 0) ≡ false → IsFilled (remove (parts cs) k) → IsFilled (parts cs)
  filled-whole some f = filled-closed (parts cs) k f (subst (λ t. 0 < length t) part (some-of shown some))

-- ---- what is always true of a list in chunks

ids-two : (one other : ℕ) → one < other → other < 4294967296 → IsIdList (one ∷ other ∷ [] ++ [])
unfolding IsStrictlySortedBy
ids-two one other rising small = record {
  rising = ((less_from_below one other rising, tt), (tt, tt));
  small = (omega (arith, rising, small), (small, tt));
}

first-counted : (n : ℕ) (ids : List ℕ) (place : ℕ) → n ≡ 0 → place < 1 → get_or (n ∷ []) place 0 ≡ length (concat (take place (ids ∷ [])))
first-counted n ids zero start lt = start
first-counted n ids (suc k) start lt = absurd (omega (arith, lt))

pub laid-two : (one other : ℕ) (c : Chunk) → one < other → other < 4294967296 → c.before ≡ 0 → c.ids.items ≡ one ∷ other ∷ [] → IsLaid (c ∷ [])
laid-two one other c rising small start is = record {
  ids = rw is (ids-two one other rising small);
  filled = rw is (omega arith, tt);
  counted = λ place lt. first-counted c.before c.ids.items place start (omega (arith, lt));
}

pub total-few : (cs : List Chunk) (k : ℕ) → k < length cs → length (ids_in cs) ≤ 4294967296 → length (concat (take k (parts cs))) + length (get_or (parts cs) k []) ≤ 4294967296
total-few cs k lt few_ids = omega (arith, few_ids, sum-at (parts cs) k (in-parts cs k lt))

-- what stays true after a change of one part: of the ids, and of the filled parts
pub kept-few : (ids new : List ℕ) → IsIdList ids → new ≡ ids → length new ≤ 4294967296
kept-few ids new is same = few new (ids-changed ids new is same)

pub laid-from : (cs : List Chunk) (ids : List ℕ) → ids_in cs ≡ ids → IsIdList ids → IsFilled (parts cs) → IsCounted (keys key.Before cs) (parts cs) → IsLaid cs
laid-from cs ids same is filled counted = record { ids = ids-changed ids (ids_in cs) is same; filled = filled; counted = counted }

positive : (n : ℕ) → (n == 0) ≡ false → 0 < n
positive zero is = absurd cc
positive (suc n) is = omega arith

pub laid-none : (cs : List Chunk) → cs ≡ [] → IsLaid cs
unfolding IsStrictlySortedBy
laid-none cs none =
    let empty : IsLaid [] = record { ids = record { rising = tt; small = tt }; filled = tt; counted = λ place lt. absurd (omega (arith, lt)) } in
    subst IsLaid (sym none) empty

pub ids-one : (id : ℕ) → id < 4294967296 → IsIdList (id ∷ [])
unfolding IsStrictlySortedBy
ids-one id small = record { rising = (tt, tt); small = (small, tt) }

module _ (cs : List Chunk) (laid : IsLaid cs) where
  pub total-chunks : (length cs == 0) ≡ false → get_or (keys key.Before cs) (length cs - 1) 0 + length (get_or (parts cs) (length cs - 1) []) ≡ length (ids_in cs)
  total-chunks some =
      let more : 0 < length cs = positive (length cs) some in
      let last : length cs - 1 < length cs = omega (arith, more) in
      total (keys key.Before cs) (parts cs) (length cs - 1) (in-parts cs (length cs - 1) last) laid.counted (omega (arith, more, length-map cs (λ (c : Chunk). c.ids.items)))

  module _ (k : ℕ) (lt : k < length cs) (place : ℕ) (from : 0 < k → slice_index (keys key.Before cs) k ≤ place) (to : k + 1 < length cs → place < slice_index (keys key.Before cs) (k + 1)) (within : place < length (ids_in cs)) where
    to-parts : k + 1 < length (parts cs) → place < slice_index (keys key.Before cs) (k + 1)
    to-parts more = to (omega (arith, more, length-map cs (λ (c : Chunk). c.ids.items)))

    pub chunk-starts : slice_index (keys key.Before cs) k ≤ place
    chunk-starts = starts (keys key.Before cs) (parts cs) k (in-parts cs k lt) laid.counted place from to-parts within

    pub chunk-ends : place - slice_index (keys key.Before cs) k < length (get_or (parts cs) k [])
    chunk-ends = ends (keys key.Before cs) (parts cs) k (in-parts cs k lt) laid.counted place from to-parts within

    pub chunk-found : get_or (get_or (parts cs) k []) (place - slice_index (keys key.Before cs) k) 0 ≡ slice_index (ids_in cs) place
    chunk-found = found (keys key.Before cs) (parts cs) k (in-parts cs k lt) laid.counted place from to-parts within
