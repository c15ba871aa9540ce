-- No item of an unlocked collection matches once each that matched is gone.
use Rattle.std.proofs.Common.{◌≡◌, ℕ, ◌||◌, Bool, true, false, cond, nat_eq, List, [], ◌∷◌, ◌++◌, filter, map, IfSome, Option, Some, None, refl, sym, ap, subst, ◌∙◌}
use Rattle.std.specs.Cmp.Lexicographic.{slice_cmp, nat_list_cmp_total}
use Rattle.std.specs.List.{AllByRecursion}
use Rattle.std.specs.List.Sorted.{IsStrictlySortedBy}
use Rattle.std.specs.Map.{keys_of}
use Rattle.std.specs.Ordering.{is_eq, nat_cmp}
use Rattle.std.specs.declared.cmp.Ordering.TheVariants.{Less}
use Rattle.std.proofs.lemmas.Cmp.{tied_itself}
use Rattle.kr_base.specs.Attributes.{IsInOrder, is_name, value_at}
use Rattle.kr_base.specs.declared.attributes.AttrValue.{AttrValue}
use Rattle.kr_base.proofs.OrderedLemmas.{name-test}
use Rattle.attribute_match.specs.Match.{matches}
use Rattle.keyring_seal.specs.Arranged.{Row, row_number}
use Rattle.service_events.specs.collection_store.specs.Changes.{has_row}
use Rattle.service_events.specs.collection_store.specs.State.{Held}
use Rattle.service_events.specs.collection_table.specs.Entries.{changed}
use Rattle.service_events.specs.collection_table.specs.Rows.{CollectionRow, Rows}
use Rattle.service_events.specs.service_tables.proofs.EachLemmas.{each-append}
use Rattle.tool_laws.specs.Matches.{Item, open_in, open_items}
use Rattle.tool_laws.proofs.RowLemmas.{IsAbsent, Lacks, eq-from}

-- ---- what is at each stem

module _ {V : Type 0} where
  -- what is changed at a stem leaves the stems as they are
  pub keys-changed : (stem : List ℕ) (f : V → V) (entries : List (List ℕ × V)) → keys_of (changed stem f entries) ≡ keys_of entries
  keys-changed stem f [] = refl
  keys-changed stem f (e ∷ more) =
      let pass : (b : Bool) → keys_of (cond b (e.0, f e.1) e ∷ changed stem f more) ≡ e.0 ∷ keys_of more =
      elim [ true ↦ ap (λ (l : List (List ℕ)). e.0 ∷ l) (keys-changed stem f more) | false ↦ ap (λ (l : List (List ℕ)). e.0 ∷ l) (keys-changed stem f more) ] in
      pass (is_name stem e.0)

  pub ordered-changed : (stem : List ℕ) (f : V → V) (entries : List (List ℕ × V)) → IsInOrder entries → IsInOrder (changed stem f entries)
  ordered-changed stem f entries are = subst (λ (l : List (List ℕ)). IsStrictlySortedBy (slice_cmp nat_cmp) l) (sym (keys-changed stem f entries)) are

  -- what is at a later stem isn't at the first one
  later-at : (e : List ℕ × V) (more xs : List (List ℕ × V)) → AllByRecursion (λ y. slice_cmp nat_cmp e.0 y ≡ Less) (keys_of xs) → AllByRecursion (λ r. value_at r.0 more ≡ Some r.1) xs
      → AllByRecursion (λ r. value_at r.0 (e ∷ more) ≡ Some r.1) xs
  later-at e more [] below are = tt
  later-at e more (x ∷ xs) below are =
      let off : is_name x.0 e.0 ≡ false = name-test x.0 e.0 ∙ ap is_eq below.0 in
      (rw off are.0, later-at e more xs below.1 are.1)

  -- stems in order lead to their own values
  pub each-at : (entries : List (List ℕ × V)) → IsInOrder entries → AllByRecursion (λ e. value_at e.0 entries ≡ Some e.1) entries
  unfolding IsStrictlySortedBy
  each-at [] are = tt
  each-at (e ∷ more) (below, rest) =
      let itself : is_name e.0 e.0 ≡ true = ap is_eq (tied_itself nat_list_cmp_total e.0) in
      (rw itself refl, later-at e more more below (each-at more rest))

-- ---- what is true of the matches

each-left : {A : Type 0} (P : A → Type 0) (xs ys : List A) → AllByRecursion P (xs ++ ys) → AllByRecursion P xs
each-left P [] ys are = tt
each-left P (x ∷ xs) ys are = (are.0, each-left P xs ys are.1)

each-right : {A : Type 0} (P : A → Type 0) (xs ys : List A) → AllByRecursion P (xs ++ ys) → AllByRecursion P ys
each-right P [] ys are = are
each-right P (x ∷ xs) ys are = each-right P xs ys are.1

-- of fewer rows fewer match
pub each-fewer : (P : Item → Type 0) (at : Row → Item) (match keep : Row → Bool) (rows : List Row) → AllByRecursion P (map at (filter match rows)) → AllByRecursion P (map at (filter match (filter keep rows)))
each-fewer P at match keep [] are = tt
each-fewer P at match keep (row ∷ rows) are = pass (keep row) (match row) refl are (each-fewer P at match keep rows)
  where
    kept : (m : Bool) → match row ≡ m → AllByRecursion P (map at (cond m (row ∷ filter match rows) (filter match rows)))
        → (AllByRecursion P (map at (filter match rows)) → AllByRecursion P (map at (filter match (filter keep rows)))) → AllByRecursion P (map at (filter match (row ∷ filter keep rows)))
    kept true is are rest = rw is (are.0, rest are.1)
    kept false off are rest = rw off (rest are)

    left : (m : Bool) → AllByRecursion P (map at (cond m (row ∷ filter match rows) (filter match rows))) → AllByRecursion P (map at (filter match rows))
    left true are = are.1
    left false are = are

    pass : (k m : Bool) → match row ≡ m → AllByRecursion P (map at (cond m (row ∷ filter match rows) (filter match rows)))
        → (AllByRecursion P (map at (filter match rows)) → AllByRecursion P (map at (filter match (filter keep rows))))
        → AllByRecursion P (map at (filter match (cond k (row ∷ filter keep rows) (filter keep rows))))
    pass true m is are rest = kept m is are rest
    pass false m is are rest = rest (left m are)

-- what is true of each match stays true of each once a collection is changed, if the change keeps it so in the collection
pub matches-changed : (P : Item → Type 0) (wanted : List (List ℕ × AttrValue)) (stem : List ℕ) (f : CollectionRow → CollectionRow)
    → ((at : List ℕ) (row : CollectionRow) → AllByRecursion P (open_in wanted at row.held) → AllByRecursion P (open_in wanted at (f row).held)) → (rows : Rows)
    → AllByRecursion P (open_items wanted rows) → AllByRecursion P (open_items wanted (changed stem f rows))
matches-changed P wanted stem f keeps [] are = tt
matches-changed P wanted stem f keeps (row ∷ rows) are =
    let here : AllByRecursion P (open_in wanted row.0 row.1.held) = each-left P (open_in wanted row.0 row.1.held) (open_items wanted rows) are in
    let rest : AllByRecursion P (open_items wanted (changed stem f rows)) = matches-changed P wanted stem f keeps rows (each-right P (open_in wanted row.0 row.1.held) (open_items wanted rows) are) in
    let pass : (b : Bool) → AllByRecursion P (open_items wanted (cond b (row.0, f row.1) row ∷ changed stem f rows)) =
    elim [
      | true ↦ each-append P (open_in wanted row.0 (f row.1).held) (open_items wanted (changed stem f rows)) (keeps row.0 row.1 here) rest
      | false ↦ each-append P (open_in wanted row.0 row.1.held) (open_items wanted (changed stem f rows)) here rest
    ] in
    pass (is_name stem row.0)

-- ---- no match

or-right : (a b : Bool) → b ≡ true → (a || b) ≡ true
or-right true b is = refl
or-right false b is = is

-- a row more has what was there
has-more : (row : Row) (rows xs : List Row) → AllByRecursion (λ (r : Row). has_row (row_number r) rows ≡ true) xs → AllByRecursion (λ (r : Row). has_row (row_number r) (row ∷ rows) ≡ true) xs
has-more row rows [] are = tt
has-more row rows (x ∷ xs) are = (or-right (nat_eq (row_number row) (row_number x)) (has_row (row_number x) rows) are.0, has-more row rows xs are.1)

-- each row is there
each-has : (rows : List Row) → AllByRecursion (λ (r : Row). has_row (row_number r) rows ≡ true) rows
each-has [] = tt
each-has (row ∷ rows) = (ap (λ b. b || has_row (row_number row) rows) (eq-from (row_number row) (row_number row) refl), has-more row rows rows (each-has rows))

-- if each that passes isn't there, none passes
none-passes : (match : Row → Bool) (all xs : List Row) → AllByRecursion (λ (r : Row). has_row (row_number r) all ≡ true) xs
    → AllByRecursion (λ (r : Row). has_row (row_number r) all ≡ false) (filter match xs) → filter match xs ≡ []
none-passes match all [] are lack = refl
none-passes match all (x ∷ xs) are lack = pass (match x) are.0 lack (none-passes match all xs are.1)
  where
    pass : (m : Bool) → has_row (row_number x) all ≡ true → AllByRecursion (λ (r : Row). has_row (row_number r) all ≡ false) (cond m (x ∷ filter match xs) (filter match xs))
        → (AllByRecursion (λ (r : Row). has_row (row_number r) all ≡ false) (filter match xs) → filter match xs ≡ []) → cond m (x ∷ filter match xs) (filter match xs) ≡ []
    pass true is lack rest = absurd (let its : true ≡ false = sym is ∙ lack.0 in cc)
    pass false is lack rest = rest lack

-- the rows lack what is absent
rows-lack : (all : Rows) (stem : List ℕ) (row : CollectionRow) (held : Held) → value_at stem all ≡ Some row → row.held ≡ Some held → (xs : List Row)
    → AllByRecursion (IsAbsent all) (map (λ (r : Row). (stem, r.0.id)) xs) → AllByRecursion (λ (r : Row). has_row (row_number r) held.rows ≡ false) xs
rows-lack all stem row held at unlocked [] are = tt
rows-lack all stem row held at unlocked (x ∷ xs) are =
    let lacks : Lacks (row_number x) row = subst (λ (o : Option CollectionRow). IfSome o (Lacks (row_number x))) at are.0 in
    (subst (λ (o : Option Held). IfSome o (λ h. has_row (row_number x) h.rows ≡ false)) unlocked lacks.kept, rows-lack all stem row held at unlocked xs are.1)

-- if each match is absent, there is none
pub none-matched : (wanted : List (List ℕ × AttrValue)) (all rows : Rows) → AllByRecursion (λ (e : List ℕ × CollectionRow). value_at e.0 all ≡ Some e.1) rows
    → AllByRecursion (IsAbsent all) (open_items wanted rows) → open_items wanted rows ≡ []
none-matched wanted all [] at are = refl
none-matched wanted all (row ∷ rows) at are =
    let here : open_in wanted row.0 row.1.held ≡ [] = pass row.1.held refl (each-left (IsAbsent all) (open_in wanted row.0 row.1.held) (open_items wanted rows) are) at.0 in
    let rest : open_items wanted rows ≡ [] = none-matched wanted all rows at.1 (each-right (IsAbsent all) (open_in wanted row.0 row.1.held) (open_items wanted rows) are) in
    ap (λ (l : List Item). l ++ open_items wanted rows) here ∙ rest
  where
    pass : (held : Option Held) → row.1.held ≡ held → AllByRecursion (IsAbsent all) (open_in wanted row.0 held) → value_at row.0 all ≡ Some row.1 → open_in wanted row.0 held ≡ []
    pass None is are at = refl
    pass (Some held) is are at =
        let match : Row → Bool = λ r. matches wanted r.1.attributes in
        ap (map (λ (r : Row). (row.0, r.0.id)))
        (none-passes match held.rows held.rows (each-has held.rows) (rows-lack all row.0 row.1 held at is (filter match held.rows) are))
