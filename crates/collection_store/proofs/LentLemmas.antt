-- One walk over the rows of the items beside the items of the clear part.
use Rattle.std.proofs.Common.{◌≡◌, ℕ, ◌<◌, ◌≤◌, Bool, true, false, cond, nat_eq, suc, List, [], ◌∷◌, ◌++◌, length, map, drop, Option, Some, None, refl, sym, ap, subst, ◌∙◌, inl, inr, arith}
use Rattle.std.specs.Map.{keys_of}
use Rattle.std.specs.Option.{option_map}
use Rattle.std.specs.Ordering.{nat_cmp}
use Rattle.std.proofs.lemmas.Bool.{cases_order}
use Rattle.std.proofs.lemmas.Bool.Decides.{nat_tests}
use Rattle.std.proofs.lemmas.List.{length-map}
use Rattle.std.proofs.lemmas.Map.Keys.{sorted_tail}
use Rattle.kr_base.proofs.IdLemmas.{AllAbove, Rises, above-head}
use Rattle.keyring_file.specs.declared.area.FullItem.{FullItem}
use Rattle.keyring_file.specs.declared.clear.ClearItem.{ClearItem}
use Rattle.keyring_seal.specs.Arranged.{Row}
use Rattle.item_store.specs.Rows.{Row as StoreRow, Rows, row_at}
use Rattle.collection_store.specs.Preparing.{left_after, lent_at, looked, with_item}
use Rattle.collection_store.specs.State.{ids_of}

-- the full item of an id, if there is one
abbrev found : ℕ → Rows → Option FullItem
found id es = option_map (λ (row : StoreRow). row.item) (row_at id es)

abbrev first_of : Row → ClearItem
first_of row = row.0

-- the items of the clear part and the rows that are left: both are in order, and each item has its row
pub record IsLeft (items : List ClearItem) (es : Rows) : Type 0 where
  pub rising : Rises (ids_of items)
  pub keys : Rises (keys_of es)
  pub there : map first_of (looked items es) ≡ items

all_less : (a b : ℕ) → a < b → (xs : List ℕ) → AllAbove b xs → AllAbove a xs
all_less a b lt [] h = tt
all_less a b lt (x ∷ xs) h = (omega (arith, lt, h.0), all_less a b lt xs h.1)

lower : (a b : ℕ) → a < b → nat_eq a b ≡ false
lower a b lt = grind (arith, nat_tests)

higher : (a b : ℕ) → b < a → nat_eq a b ≡ false
higher a b lt = grind (arith, nat_tests)

same_number : (a b : ℕ) → nat_eq a b ≡ true → a ≡ b
same_number a b is = grind (arith, nat_tests)

-- no row has a number that is less than all of them
none_there : (id : ℕ) (es : Rows) → AllAbove id (keys_of es) → row_at id es ≡ None
none_there id [] h = refl
none_there id (e ∷ es) h = rw (lower id e.0 h.0) (none_there id es h.1)

-- a row whose number is less than all ids isn't looked at
passed_by : (e : ℕ × StoreRow) (es : Rows) (items : List ClearItem) → AllAbove e.0 (ids_of items) → looked items (e ∷ es) ≡ looked items es
passed_by e es [] h = refl
passed_by e es (item ∷ more) h = rw (higher item.id.0 e.0 h.0) (ap (λ l. with_item item (found item.id.0 es) ++ l) (passed_by e es more h.1))

few_looked : (items : List ClearItem) (es : Rows) → length (looked items es) ≤ length items
few_looked [] es = omega arith
few_looked (item ∷ more) es =
    let rest = few_looked more es in
    let step : (o : Option FullItem) → length (with_item item o ++ looked more es) ≤ suc (length more) =
    elim [
      | None ↦ omega (arith, rest)
      | Some full ↦ omega (arith, rest)
    ] in
    step (found item.id.0 es)

-- an item whose id is less than all numbers has no row
never_lacking : (item : ClearItem) (more : List ClearItem) (es : Rows) → AllAbove item.id.0 (keys_of es) → map first_of (looked (item ∷ more) es) ≡ item ∷ more → ⊥
never_lacking item more es above there =
    let none : looked (item ∷ more) es ≡ looked more es = rw (none_there item.id.0 es above) refl in
    let count : length (looked more es) ≡ suc (length more) = sym (length-map (looked more es) first_of) ∙ ap (λ (l : List Row). length (map first_of l)) (sym none) ∙ ap (λ (l : List ClearItem). length l) there in
    omega (arith, few_looked more es, count)

module _ (item : ClearItem) (more : List ClearItem) (e : ℕ × StoreRow) (es : Rows) (left : IsLeft (item ∷ more) (e ∷ es)) where
  abbrev Stepped : Bool → Type 0
  Stepped b = (looked (item ∷ more) (e ∷ es) ≡ cond b ((item, e.1.item) ∷ []) [] ++ looked (cond b more (item ∷ more)) es) × IsLeft (cond b more (item ∷ more)) es

  at_same : nat_eq item.id.0 e.0 ≡ true → Stepped true
  at_same is =
      let above : AllAbove e.0 (ids_of more) = subst (λ n. AllAbove n (ids_of more)) (same_number item.id.0 e.0 is) (above-head item.id.0 (ids_of more) left.rising) in
      let whole : looked (item ∷ more) (e ∷ es) ≡ (item, e.1.item) ∷ looked more es = rw is (ap (λ l. (item, e.1.item) ∷ l) (passed_by e es more above)) in
      let there : item ∷ map first_of (looked more es) ≡ item ∷ more = ap (λ (l : List Row). map first_of l) (sym whole) ∙ left.there in (
        whole,
        record {
          rising = sorted_tail nat_cmp item.id.0 (ids_of more) left.rising;
          keys = sorted_tail nat_cmp e.0 (keys_of es) left.keys;
          there = ap (λ (l : List ClearItem). drop 1 l) there;
        },
      )

  at_higher : e.0 < item.id.0 → Stepped false
  at_higher lt =
      let above : AllAbove e.0 (ids_of (item ∷ more)) = (lt, all_less e.0 item.id.0 lt (ids_of more) (above-head item.id.0 (ids_of more) left.rising)) in
      let whole : looked (item ∷ more) (e ∷ es) ≡ looked (item ∷ more) es = passed_by e es (item ∷ more) above in (
        whole,
        record {
          rising = left.rising;
          keys = sorted_tail nat_cmp e.0 (keys_of es) left.keys;
          there = ap (λ (l : List Row). map first_of l) (sym whole) ∙ left.there;
        },
      )

  at_other : nat_eq item.id.0 e.0 ≡ false → Stepped false
  at_other off =
      elim (cases_order item.id.0 e.0) [
        | inl equal ↦ let is : nat_eq item.id.0 e.0 ≡ true = grind (arith, nat_tests) in let wrong : true ≡ false = sym is ∙ off in absurd cc
        | inr apart ↦ elim apart [
          | inl below ↦ absurd (never_lacking item more (e ∷ es) (below, all_less item.id.0 e.0 below (keys_of es) (above-head e.0 (keys_of es) left.keys)) left.there)
          | inr above ↦ at_higher above
        ]
      ]

  stepped : (b : Bool) → nat_eq item.id.0 e.0 ≡ b → Stepped b
  stepped true is = at_same is
  stepped false off = at_other off

pub step : (items : List ClearItem) (e : ℕ × StoreRow) (es : Rows) → IsLeft items (e ∷ es) → (looked items (e ∷ es) ≡ lent_at items e.0 e.1.item ++ looked (left_after items e.0) es) × IsLeft (left_after items e.0) es
step [] e es left = (refl, record { rising = left.rising; keys = sorted_tail nat_cmp e.0 (keys_of es) left.keys; there = refl })
step (item ∷ more) e es left = stepped item more e es left (nat_eq item.id.0 e.0) refl

pub none_looked : (items : List ClearItem) → looked items [] ≡ []
none_looked [] = refl
none_looked (item ∷ more) = none_looked more
