-- What an edit that is stored makes of the collections.
use Rattle.std.proofs.Common.{◌≡◌, ℕ, ◌||◌, Bool, true, false, cond, not, nat_eq, nat_le, List, [], ◌∷◌, filter, map, IfSome, length, Option, Some, None, Result, Ok, Err, refl, ap, ◌∙◌, arith}
use Rattle.std.specs.List.{list_any, zip}
use Rattle.std.specs.Option.{option_and_then, option_map}
use Rattle.std.proofs.lemmas.Bool.Decides.{nat_tests}
use Rattle.std.proofs.lemmas.Option.{none-some, same_Some}
use Rattle.kr_base.specs.Attributes.{is_name, value_at}
use Rattle.item_store.specs.declared.fault.ItemFault.{ItemFault}
use Rattle.keyring_file.specs.Clear.{ClearPart}
use Rattle.keyring_file.specs.declared.clear.ClearItem.{ClearItem}
use Rattle.keyring_seal.specs.Arranged.{Row, row_number, rows as rows_of_content}
use Rattle.keyring_seal.specs.Whole.{sealed}
use Rattle.keyring_seal.specs.declared.content.Content.{Content}
use Rattle.service_events.specs.collection_store.specs.Changes.{content_changed, content_stored, has_row, rows_without}
use Rattle.service_events.specs.collection_store.specs.Outcomes.{most_for}
use Rattle.service_events.specs.collection_store.specs.State.{Held}
use Rattle.service_events.specs.collection_store.specs.Storable.{sized, storable}
use Rattle.service_events.specs.collection_store.specs.declared.change.Change.{Change}
use Rattle.service_events.specs.collection_store.specs.declared.change.Changed.{Changed}
use Rattle.service_events.specs.collection_store.specs.declared.refused.ChangeRefused.TheVariants as refused
use Rattle.service_events.specs.collection_table.specs.Entries.{changed}
use Rattle.service_events.specs.collection_table.specs.Rows.{CollectionRow, Rows, room_in, shows_item, stored}
use Rattle.service_events.specs.service_tables.specs.Storing.{has_place, placed, placed_answer, storable_at}
use Rattle.tool_laws.specs.Matches.{Item}

-- ---- what is at a stem once something is changed there

module _ {V : Type 0} (stem : List ℕ) (f : V → V) where
  pub changed-here : (entries : List (List ℕ × V)) → value_at stem (changed stem f entries) ≡ option_map f (value_at stem entries)
  changed-here [] = refl
  changed-here (e ∷ more) =
      let pass : (b : Bool) → is_name stem e.0 ≡ b → value_at stem (changed stem f (e ∷ more)) ≡ option_map f (value_at stem (e ∷ more)) =
      elim [ true ↦ λ is. rw is (rw is refl) | false ↦ λ off. rw off (rw off (changed-here more)) ] in
      pass (is_name stem e.0) refl

  -- what the change keeps true stays true of what is at any stem
  pub changed-keeps : (P : V → Type 0) → ((v : V) → P v → P (f v)) → (other : List ℕ) (entries : List (List ℕ × V)) → IfSome (value_at other entries) P
      → IfSome (value_at other (changed stem f entries)) P
  changed-keeps P keeps other [] is = tt
  changed-keeps P keeps other (e ∷ more) is =
      let here : (b c : Bool) → is_name stem e.0 ≡ b → is_name other e.0 ≡ c → IfSome (cond c (Some e.1) (value_at other more)) P
      → IfSome (value_at other (cond b (e.0, f e.1) e ∷ changed stem f more)) P =
      elim [
        | true ↦ elim [ true ↦ λ at its it. rw its (keeps e.1 it) | false ↦ λ at its it. rw its (changed-keeps P keeps other more it) ]
        | false ↦ elim [ true ↦ λ at its it. rw its it | false ↦ λ at its it. rw its (changed-keeps P keeps other more it) ]
      ] in
      here (is_name stem e.0) (is_name other e.0) refl refl is

-- ---- an edit that can be stored

-- the edit of the collection of a stem can be made, since it is there and unlocked
pub record IsMade (stem : List ℕ) (change : Change) (now : ℕ) (rows : Rows) (answer : Changed) : Type 0 where
  pub row : CollectionRow
  pub held : Held
  pub content : Content
  pub at : value_at stem rows ≡ Some row
  pub unlocked : row.held ≡ Some held
  pub made : content_changed change now row.clear held.rows ≡ Ok (content, answer)

-- a content with the answer
abbrev pub made-so : Content → Changed → Result (Content × Changed) ItemFault
made-so content answer = Ok (content, answer)

-- an answer that has a place is the one that there was
placed-is : (rows : Rows) (answer other : Changed) → placed_answer other rows ≡ Some answer → other ≡ answer
placed-is rows answer other e = pass (has_place other rows) e
  where
    pass : (b : Bool) → cond b (Some other) None ≡ Some answer → other ≡ answer
    pass true e = same_Some other answer e
    pass false e = absurd (none-some answer e)

sized-is : (rows : Rows) (most : ℕ) (held : Held) (answer : Changed) (result : Result (Content × Changed) ItemFault) → placed rows (sized most held result) ≡ Some answer
    → (content : Content) × (result ≡ made-so content answer)
sized-is rows most held answer (Err fault) e = absurd (none-some answer e)
sized-is rows most held answer (Ok made) e = pass (nat_le (length (sealed made.0 held.key held.vector)) most) e
  where
    pass : (b : Bool) → placed rows (cond b (Ok made.1) (Err refused.TooLarge)) ≡ Some answer → (content : Content) × (made-so made.0 made.1 ≡ made-so content answer)
    pass true e = (made.0, ap (made-so made.0) (placed-is rows answer made.1 e))
    pass false e = absurd (none-some answer e)

pub storable-is : (stem : List ℕ) (change : Change) (now : ℕ) (rows : Rows) (answer : Changed) → storable_at stem change now rows ≡ Some answer → IsMade stem change now rows answer
storable-is stem change now rows answer e = at-stem (value_at stem rows) refl e
  where
    at-held : (row : CollectionRow) (held : Option Held) → value_at stem rows ≡ Some row → row.held ≡ held
        → option_and_then (λ (h : Held). placed rows (storable change now (room_in rows) row.file row.clear h)) held ≡ Some answer → IsMade stem change now rows answer
    at-held row None at unlocked e = absurd (none-some answer e)
    at-held row (Some held) at unlocked e =
        let its = sized-is rows (most_for (room_in rows) row.file) held answer (content_changed change now row.clear held.rows) e in
        record { row = row; held = held; content = its.0; at = at; unlocked = unlocked; made = its.1 }

    at-stem : (row : Option CollectionRow) → value_at stem rows ≡ row
        → option_and_then (λ (r : CollectionRow). option_and_then (λ (h : Held). placed rows (storable change now (room_in rows) r.file r.clear h)) r.held) row ≡ Some answer
        → IsMade stem change now rows answer
    at-stem None at e = absurd (none-some answer e)
    at-stem (Some row) at e = at-held row row.held at refl e

-- ---- the rows of a content that is stored

-- a list of pairs is that of its first parts and its second parts
pub zip-parts : {A B : Type 0} (xs : List (A × B)) → zip (map (λ x. x.0) xs) (map (λ x. x.1) xs) ≡ xs
zip-parts [] = refl
zip-parts (x ∷ xs) = ap (λ l. x ∷ l) (zip-parts xs)

pub rows-stored : (now : ℕ) (front : ClearPart) (these : List Row) → rows_of_content (content_stored now front these) ≡ these
rows-stored now front these = zip-parts these

shown-rows : (id : ℕ) (these : List Row) → list_any (λ (item : ClearItem). nat_eq item.id.0 id) (map (λ (row : Row). row.0) these) ≡ has_row id these
shown-rows id [] = refl
shown-rows id (row ∷ these) = ap (λ b. nat_eq (row_number row) id || b) (shown-rows id these)

pub eq-from : (n m : ℕ) → n ≡ m → nat_eq n m ≡ true
eq-from n m e = grind (arith, nat_tests, e)

-- ---- an item that isn't there

-- neither what a collection shows nor what it keeps has an item of the id
pub record Lacks (id : ℕ) (row : CollectionRow) : Type 0 where
  pub shown : shows_item id row ≡ false
  pub kept : IfSome row.held (λ held. has_row id held.rows ≡ false)

-- the item isn't in the collection of its stem, if there is one
abbrev pub IsAbsent : Rows → Item → Type 0
IsAbsent rows item = IfSome (value_at item.0 rows) (Lacks item.1.0)

-- a collection once rows without an item are stored
pub stored-lacks : (id now : ℕ) (front : ClearPart) (these : List Row) (key vector : List ℕ) → has_row id these ≡ false → Lacks id (stored (content_stored now front these) key vector)
stored-lacks id now front these key vector lacks = record {
  shown = shown-rows id these ∙ lacks;
  kept = ap (has_row id) (rows-stored now front these) ∙ lacks;
}

or-false : (a b : Bool) → (a || b) ≡ false → (a ≡ false) × (b ≡ false)
or-false true b e = absurd (let its : true ≡ false = e in cc)
or-false false b e = (refl, e)

-- fewer rows lack what more of them lack
pub fewer-lack : (id : ℕ) (keep : Row → Bool) (these : List Row) → has_row id these ≡ false → has_row id (filter keep these) ≡ false
fewer-lack id keep [] lacks = refl
fewer-lack id keep (row ∷ these) lacks = pass (keep row) (or-false (nat_eq (row_number row) id) (has_row id these) lacks) (fewer-lack id keep these)
  where
    pass : (b : Bool) → (nat_eq (row_number row) id ≡ false) × (has_row id these ≡ false) → (has_row id these ≡ false → has_row id (filter keep these) ≡ false)
        → has_row id (cond b (row ∷ filter keep these) (filter keep these)) ≡ false
    pass true both rest = ap (λ b. b || has_row id (filter keep these)) both.0 ∙ rest both.1
    pass false both rest = rest both.1

-- rows without that of an id lack it
pub without-lack : (id : ℕ) (these : List Row) → has_row id (rows_without id these) ≡ false
without-lack id [] = refl
without-lack id (row ∷ these) = pass (nat_eq (row_number row) id) refl (without-lack id these)
  where
    pass : (b : Bool) → nat_eq (row_number row) id ≡ b → has_row id (rows_without id these) ≡ false
        → has_row id (cond (not b) (row ∷ rows_without id these) (rows_without id these)) ≡ false
    pass true is rest = rest
    pass false off rest = ap (λ b. b || has_row id (rows_without id these)) off ∙ rest
