-- The items of a load as its collection keeps them.
use Rattle.std.proofs.Common.{◌≡◌, ◌≢◌, ℕ, suc, ◌+◌, ◌^◌, ◌<◌, ◌≤◌, ◌&&◌, ◌||◌, Bool, true, false, cond, nat_eq, List, [], ◌∷◌, ◌++◌, length, map, Some, None, codes, decimal, refl, sym, ap, ◌∙◌, subst, arith, length-append}
use Rattle.std.specs.List.{AllByRecursion, IsDistinct, find, list_all, list_any}
use Rattle.std.proofs.lemmas.Bool.Decides.{nat_tests}
use Rattle.kr_base.specs.declared.attributes.AttrValue.{AttrValue}
use Rattle.kr_base.specs.declared.attributes.AttrValue.TheVariants as value
use Rattle.kr_base.specs.Attributes.{is_name}
use Rattle.attribute_hash.specs.Hash.{hashes, text_hash}
use Rattle.keyring_text.specs.Fields.{number, string, time}
use Rattle.keyring_file.specs.Canonical.{attribute_text, item_text, list_text, pair_text, zeros}
use Rattle.keyring_file.specs.Clear.{plain_content}
use Rattle.keyring_file.specs.declared.clear.ClearItem.{ClearItem}
use Rattle.connection_worker.specs.service_events.specs.service_tables.specs.keyring_seal.specs.Arranged.{Row, row_number}
use Rattle.connection_worker.specs.service_events.specs.service_tables.specs.keyring_seal.specs.Room.{row_text}
use Rattle.connection_worker.specs.service_events.specs.service_tables.specs.keyring_seal.proofs.RoomLemmas.{length_list_text, length_number, length_text_hash, length_time}
use Rattle.connection_worker.specs.service_events.specs.item_store.specs.Rows.{last_id, next_id}
use Rattle.connection_worker.specs.service_events.specs.collection_store.specs.Changes.{minor_made, new_row, store_rows}
use Rattle.load_plan.specs.Plan.{attributes_of}
use Rattle.load_plan.specs.Words.{cells, group_of, secret_of}
use Rattle.load_laws.specs.Made.{made}
use Rattle.load_laws.proofs.ListLemmas.{distinct-made}
use Rattle.load_laws.proofs.FileLemmas.{IsShort}
use Rattle.load_laws.proofs.SizeLemmas.{digits-few}

-- a row is that of an item of the load, which was made at some moment
pub record IsItem (seed item : ℕ) (row : Row) : Type 0 where
  pub now : ℕ
  pub is : row ≡ new_row (item + 1) now (codes "item " ++ decimal item) (attributes_of seed item) (secret_of seed item) (codes "text/plain")

-- the rows are those of the items from this one on
abbrev pub AreItems : ℕ → ℕ → List Row → Type 0
AreItems seed item [] = Unit {0}
AreItems seed item (row ∷ rows) = IsItem seed item row × AreItems seed (suc item) rows

-- one more
pub items-more : (seed item : ℕ) (rows : List Row) (row : Row) → AreItems seed item rows → IsItem seed (item + length rows) row → AreItems seed item (rows ++ row ∷ [])
items-more seed item [] row are is = (subst (λ k. IsItem seed k row) (let e : item + 0 ≡ item = omega arith in e) is, tt)
items-more seed item (first ∷ rows) row are is =
    (are.0, items-more seed (suc item) rows row are.1 (subst (λ k. IsItem seed k row) (let e : item + length (first ∷ rows) ≡ suc item + length rows = omega arith in e) is))

-- ---- their numbers

pub numbers : (seed item : ℕ) (rows : List Row) → AreItems seed item rows → map row_number rows ≡ made (λ k. k + 1) item (length rows)
numbers seed item [] are = refl
numbers seed item (row ∷ rows) are = λ i. (ap row_number are.0.is) i ∷ (numbers seed (suc item) rows are.1) i

pub distinct : (seed item : ℕ) (rows : List Row) → AreItems seed item rows → IsDistinct nat_eq (map row_number rows)
distinct seed item rows are = subst (IsDistinct nat_eq) (sym (numbers seed item rows are)) (distinct-made item (length rows))

-- the last of them
last-of : (seed item : ℕ) (row : Row) (rows : List Row) → AreItems seed item (row ∷ rows) → last_id (store_rows (row ∷ rows)) ≡ item + length (row ∷ rows)
last-of seed item row [] are = let e : row_number row ≡ item + 1 = ap row_number are.0.is in omega (arith, e)
last-of seed item row (next ∷ rows) are = let rest = last-of seed (suc item) next rows are.1 in omega (arith, rest)

last-item : (seed : ℕ) (rows : List Row) → AreItems seed 0 rows → last_id (store_rows rows) ≡ length rows
last-item seed [] are = refl
last-item seed (row ∷ rows) are = let e = last-of seed 0 row rows are in omega (arith, e)

-- so the next one has the number after it
pub next-item : (seed : ℕ) (rows : List Row) → AreItems seed 0 rows → length rows ≤ 1000 → next_id (store_rows rows) ≡ Some (length rows + 1)
next-item seed rows are few =
    let last = last-item seed rows are in
    let left : nat_eq (last_id (store_rows rows)) 4294967295 ≡ false = grind (arith, nat_tests, last, few) in
    ap (λ (b : Bool). cond b None (Some (last_id (store_rows rows) + 1))) left ∙ ap (λ n. Some (n + 1)) last

-- ---- their types

-- each has the content type that version 0.0 has
pub plain-items : (seed item : ℕ) (rows : List Row) → AreItems seed item rows → list_all (λ (it : ClearItem). is_name plain_content it.content) (map (λ (row : Row). row.0) rows) ≡ true
plain-items seed item [] are = refl
plain-items seed item (row ∷ rows) are =
    let first : is_name plain_content row.0.content ≡ true = ap (λ (r : Row). is_name plain_content r.0.content) are.0.is in
    ap (λ (b : Bool). b && list_all (λ (it : ClearItem). is_name plain_content it.content) (map (λ (row : Row). row.0) rows)) first ∙ plain-items seed (suc item) rows are.1

pub minor-plain : (seed item minor : ℕ) (rows : List Row) → AreItems seed item rows → minor ≡ 0 → minor_made minor (map (λ (row : Row). row.0) rows) ≡ 0
minor-plain seed item minor rows are none = ap (λ (b : Bool). cond b minor 1) (plain-items seed item rows are) ∙ none

-- ---- their lengths

pub long-secret : (seed item : ℕ) → length (secret_of seed item) ≡ 16
unfolding cells
long-secret seed item = refl

long-string : (text : List ℕ) → length (string text) ≡ 4 + length text
long-string text = omega (arith, length-append (number (length text)) text, length_number (length text))

-- a name, a kind and a text
long-pair : (name text : List ℕ) → length (string name ++ (number 0 ++ string text)) ≡ 12 + length name + length text
long-pair name text = omega (arith, length-append (string name) (number 0 ++ string text), length-append (number 0) (string text), length_number 0, long-string name, long-string text)

-- the two attributes
abbrev two : List ℕ → List ℕ → List (List ℕ × AttrValue)
two group number = (codes "group", value.Text group) ∷ (codes "number", value.Text number) ∷ []

short-clear : (id now : ℕ) (label group digits secret content : List ℕ) → length (row_text 0 (new_row id now label (two group digits) secret content)) ≤ 500
short-clear id now label group digits secret content =
    let hashed = hashes (two group digits) in
    let list = list_text pair_text hashed in
    let one = string (codes "group") ++ (number 0 ++ string (text_hash group)) in
    let other = string (codes "number") ++ (number 0 ++ string (text_hash digits)) in
    omega (
      arith,
      length-append (number id) (number 0 ++ (list ++ [])),
      length-append (number 0) (list ++ []),
      length-append list [],
      length_list_text pair_text hashed,
      length-append one (other ++ []),
      length-append other [],
      long-pair (codes "group") (text_hash group),
      long-pair (codes "number") (text_hash digits),
      length_text_hash group,
      length_text_hash digits,
      length_number id,
      length_number 0,
    )

short-item : (id now : ℕ) (label group digits secret content : List ℕ) → length label ≤ 50 → length group ≤ 20 → length digits ≤ 20 → length secret ≡ 16
    → length (item_text (new_row id now label (two group digits) secret content).1) ≤ 500
short-item id now label group digits secret content few-label few-group few-digits few-secret =
    let list = list_text attribute_text (two group digits) in
    let one = string (codes "group") ++ (number 0 ++ string group) in
    let other = string (codes "number") ++ (number 0 ++ string digits) in
    let access = number 0 ++ [] in
    let lists = list ++ access in
    let reserved = zeros 16 ++ lists in
    let absent = number 4294967295 ++ reserved in
    let modified = time now ++ absent in
    let created = time now ++ modified in
    let given = string secret ++ created in
    let sixteen : length (zeros 16) ≡ 16 = refl in
    omega (
      arith,
      few-label,
      few-group,
      few-digits,
      few-secret,
      long-string label,
      long-string secret,
      length-append (string label) given,
      length-append (string secret) created,
      length-append (time now) modified,
      length-append (time now) absent,
      length_time now,
      length-append (number 4294967295) reserved,
      length_number 4294967295,
      length-append (zeros 16) lists,
      sixteen,
      length-append list access,
      length-append (number 0) [],
      length_number 0,
      length_list_text attribute_text (two group digits),
      length-append one (other ++ []),
      length-append other [],
      long-pair (codes "group") group,
      long-pair (codes "number") digits,
    )

long-label : (item : ℕ) → item < 2 ^ 64 → length (codes "item " ++ decimal item) ≤ 50
long-label item fits = omega (arith, length-append (codes "item ") (decimal item), digits-few item fits)

-- an item takes few bytes
pub short-row : (seed item : ℕ) (row : Row) → item < 2 ^ 64 → IsItem seed item row → IsShort row
short-row seed item row fits is =
    let group = decimal (group_of seed item) in
    let label = codes "item " ++ decimal item in
    subst IsShort (sym is.is) (record {
      clear = short-clear (item + 1) is.now label group (decimal item) (secret_of seed item) (codes "text/plain");
      item = short-item (item + 1) is.now label group (decimal item) (secret_of seed item) (codes "text/plain") (long-label item fits) (digits-few (group_of seed item) (omega arith)) (digits-few item fits) (long-secret seed item);
    })

pub short-rows : (seed item : ℕ) (rows : List Row) → item + length rows < 2 ^ 64 → AreItems seed item rows → AllByRecursion IsShort rows
short-rows seed item [] fits are = tt
short-rows seed item (row ∷ rows) fits are = (short-row seed item row (omega (arith, fits)) are.0, short-rows seed (suc item) rows (omega (arith, fits)) are.1)

-- ---- one of them

-- the row of an item, and what is found by its number
pub record IsThere (seed item : ℕ) (rows : List Row) : Type 0 where
  pub row : Row
  pub its : IsItem seed item row
  pub at : find (λ (r : Row). nat_eq (row_number r) (item + 1)) rows ≡ Some row
  pub clear : find (λ (it : ClearItem). nat_eq it.id.0 (item + 1)) (map (λ (r : Row). r.0) rows) ≡ Some row.0
  pub shown : list_any (λ (it : ClearItem). nat_eq it.id.0 (item + 1)) (map (λ (r : Row). r.0) rows) ≡ true

pub there : (seed start item : ℕ) (rows : List Row) → AreItems seed start rows → start ≤ item → item < start + length rows → IsThere seed item rows
there seed start item [] are from below = absurd (omega (arith, from, below))
there seed start item (row ∷ rows) are from below =
    let others = map (λ (r : Row). r.0) rows in
    let test : nat_eq (row_number row) (item + 1) ≡ nat_eq (start + 1) (item + 1) = ap (λ (r : Row). nat_eq (row_number r) (item + 1)) are.0.is in
    let next : suc start ≤ item → IsThere seed item rows = λ later. there seed (suc start) item rows are.1 later (omega (arith, below)) in
    let pass : (b : Bool) → nat_eq (start + 1) (item + 1) ≡ b → IsThere seed item (row ∷ rows) =
    elim [
      | true ↦ λ on.
          let here : start ≡ item = grind (arith, nat_tests, on) in
          let is : nat_eq (row_number row) (item + 1) ≡ true = test ∙ on in
          record {
            row = row;
            its = subst (λ k. IsItem seed k row) here are.0;
            at = ap (λ (b : Bool). cond b (Some row) (find (λ (r : Row). nat_eq (row_number r) (item + 1)) rows)) is;
            clear = ap (λ (b : Bool). cond b (Some row.0) (find (λ (it : ClearItem). nat_eq it.id.0 (item + 1)) others)) is;
            shown = ap (λ (b : Bool). b || list_any (λ (it : ClearItem). nat_eq it.id.0 (item + 1)) others) is;
          }
      | false ↦ λ off.
          let apart : start ≢ item = λ e. (let yes : nat_eq (start + 1) (item + 1) ≡ true = grind (arith, nat_tests, e) in let no : true ≡ false = sym yes ∙ off in cc) in
          let rest = next (omega (arith, from, apart)) in
          let isnt : nat_eq (row_number row) (item + 1) ≡ false = test ∙ off in
          record {
            row = rest.row;
            its = rest.its;
            at = ap (λ (b : Bool). cond b (Some row) (find (λ (r : Row). nat_eq (row_number r) (item + 1)) rows)) isnt ∙ rest.at;
            clear = ap (λ (b : Bool). cond b (Some row.0) (find (λ (it : ClearItem). nat_eq it.id.0 (item + 1)) others)) isnt ∙ rest.clear;
            shown = ap (λ (b : Bool). b || list_any (λ (it : ClearItem). nat_eq it.id.0 (item + 1)) others) isnt ∙ rest.shown;
          }
    ] in
    pass (nat_eq (start + 1) (item + 1)) refl
