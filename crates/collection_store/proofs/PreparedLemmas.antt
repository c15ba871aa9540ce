-- What is prepared, from its parts.
use Rattle.std.proofs.Common.{◌≡◌, ℕ, ◌<◌, ◌≤◌, Bool, true, false, cond, List, [], ◌∷◌, length, map, Result, Ok, refl, sym, ap, subst, ◌∙◌, arith}
use denote.Ref.{Bor}
use Rattle.std.specs.List.{AllByRecursion, list_all}
use Rattle.std.specs.List.Sorted.{IsStrictlyIncreasing}
use Rattle.std.specs.Map.{keys_of}
use Rattle.std.proofs.lemmas.Map.Lookups.{exact_bytes}
use Rattle.std.specs.Cmp.Lexicographic.{slice_cmp}
use Rattle.std.specs.Ordering.{nat_cmp}
use Rattle.attribute_hash.specs.Hash.{hashes}
use Rattle.kr_base.proofs.OrderedLemmas.{is_equal}
use Rattle.kr_base.specs.Attributes.{is_name}
use Rattle.kr_base.specs.declared.hashed.HashedPair.{HashedPair}
use Rattle.keyring_file.specs.Clear.{ClearPart, IsOfVersion, IsPlain, plain_content}
use Rattle.keyring_file.specs.declared.area.FullItem.{FullItem}
use Rattle.keyring_file.specs.declared.clear.ClearItem.{ClearItem}
use Rattle.keyring_seal.specs.Arranged.{Row, arranged_rows, hashed_row, of_rows, row_number}
use Rattle.keyring_seal.specs.Order.{by_number}
use Rattle.keyring_seal.specs.Whole.{opened, sealed}
use Rattle.keyring_seal.proofs.ArrangeLemmas.{map-map, told}
use Rattle.keyring_seal.proofs.ArrangedLemmas.{rows_again}
use Rattle.keyring_seal.proofs.RowLemmas.{all_of_map}
use Rattle.keyring_seal.proofs.RisingLemmas.{rising_by_number, rising_by_place}
use Rattle.item_store.specs.Rows.{Rows}
use Rattle.item_store.specs.declared.fault.ItemFault.{ItemFault}
use Rattle.collection_store.specs.Changes.{content_stored, minor_made}
use Rattle.collection_store.specs.Preparing.{AreHashed, IsOver, IsPrepared, most_in}
use Rattle.collection_store.specs.Resting.{finished, undone}
use Rattle.collection_store.specs.State.{IsOpened, ids_of, rows_with}
use Rattle.keyring_file.specs.ClearText.{HasClear}
use Rattle.collection_store.specs.declared.candidate.Frame.{Frame}
use Rattle.collection_store.specs.declared.change.Changed.{Changed}
use Rattle.collection_store.specs.declared.rest.Rest.{Rest}

abbrev rehashed : List HashedPair → Row → Row
rehashed h row = (record row.0 { hashed = h }, row.1)

hashed_same : (rows : List Row) → AreHashed rows → map hashed_row rows ≡ rows
hashed_same [] all = refl
hashed_same (row ∷ more) all =
    let one : hashed_row row ≡ row = ap (λ h. rehashed h row) (sym all.0) in
    let rest = hashed_same more all.1 in
    λ i. one i ∷ rest i

-- rows in order of their numbers, with the hashes of their own attributes, are arranged already
pub arranged_as : (front : ClearPart) (these : List Row) → AreHashed these → IsStrictlyIncreasing (map (λ (row : Row). row.0.id.0) these) → these ≡ arranged_rows (of_rows front these)
arranged_as front these hashed rising = sym (
    ap (λ t. map hashed_row (by_number row_number t)) (rows_again these)
    ∙ ap (λ t. map hashed_row t) (rising_by_number row_number these (rising_by_place row_number these rising))
    ∙ hashed_same these hashed
    )

numbers_of : (these : List Row) (items : List ClearItem) → map (λ (row : Row). row.0) these ≡ items → map (λ (row : Row). row.0.id.0) these ≡ ids_of items
numbers_of these items same = sym (map-map (λ (item : ClearItem). item.id.0) (λ (row : Row). row.0) these) ∙ ap ids_of same

-- the clear part that is stored
pub next_is : (time : ℕ) (front : ClearPart) (items : List ClearItem) (these : List Row) → map (λ (row : Row). row.0) these ≡ items → record front { modified = time; items = items; minor = minor_made front.minor items } ≡ (content_stored time front these).clear
next_is time front items these same = ap (λ (t : List ClearItem). record front { modified = time; items = t; minor = minor_made front.minor t }) (sym same)

module _ (frame : Frame) (front : ClearPart) (made : Result (List Row × Changed) ItemFault) where
  pub prepared : (these lent : List Row) (next named : ClearPart) (answer : Changed) (old new : Rows) (rest : Rest) (image : List ℕ)
      → made ≡ Ok (these, answer) → next ≡ named → named ≡ (content_stored frame.time front these).clear → lent ≡ these → rows_with named (finished rest new) ≡ these → ids_of named.items ≡ keys_of (finished rest new)
      → AreHashed these → IsStrictlyIncreasing (ids_of named.items) → undone rest new ≡ old
      → image ≡ sealed (of_rows named lent) frame.key frame.vector → opened image frame.key frame.vector ≡ Ok (of_rows named lent) → HasClear image (of_rows named lent).clear → length image ≤ most_in frame
      → IsPrepared frame front made old new (record { next = next; image = image; rest = rest; answer = answer })
  prepared these lent next named answer old new rest image is_made is_named is_next is_lent items ids hashed rising back is opens has within =
      let first : map (λ (row : Row). row.0) these ≡ named.items = sym (ap (λ (t : ClearPart). t.items) is_next) in
      let content : of_rows named these ≡ content_stored frame.time front these = ap (λ (t : ClearPart). of_rows t these) is_next in
      let clear : (of_rows named these).clear ≡ named = ap (λ (t : List ClearItem). record named { items = t }) first in
      let up : IsStrictlyIncreasing (map (λ (row : Row). row.0.id.0) these) = subst (λ t. IsStrictlyIncreasing t) (sym (numbers_of these named.items first)) rising in
      let has_named : HasClear image named = subst (λ (t : ClearPart). HasClear image t) (ap (λ (t : List Row). (of_rows named t).clear) is_lent ∙ clear) has in
      let opened_named : IsOpened image named frame.key frame.vector (finished rest new) named = record {
        opens = record {
          content = of_rows named these;
          opens = opens ∙ ap (λ t. Ok (of_rows named t)) is_lent;
          arranged = items ∙ arranged_as named these hashed up;
        };
        ids = ids;
        hashed = subst AreHashed (sym items) hashed;
        same = refl;
      } in
      record {
        rows = these;
        is_made = is_made;
        image = is ∙ ap (λ t. sealed (of_rows named t) frame.key frame.vector) is_lent ∙ ap (λ t. sealed t frame.key frame.vector) content;
        within = within;
        clear = is_named ∙ is_next;
        items = ap (λ (t : ClearPart). rows_with t (finished rest new)) is_named ∙ items;
        undone = back;
        has = subst (λ (t : ClearPart). HasClear image t) (sym is_named) has_named;
        opened = subst (λ (t : ClearPart). IsOpened image t frame.key frame.vector (finished rest new) t) (sym is_named) opened_named;
      }

  -- why it isn't prepared
  pub over : (these lent : List Row) (named : ClearPart) (answer : Changed) → made ≡ Ok (these, answer) → named ≡ (content_stored frame.time front these).clear → lent ≡ these
      → most_in frame < length (sealed (of_rows named lent) frame.key frame.vector) → IsOver frame front made
  over these lent named answer is_made is_next is_lent more =
      let content : of_rows named these ≡ content_stored frame.time front these = ap (λ (t : ClearPart). of_rows t these) is_next in
      record {
        rows = these;
        answer = answer;
        is_made = is_made;
        over = subst (λ t. most_in frame < length (sealed t frame.key frame.vector)) (ap (λ t. of_rows named t) is_lent ∙ content) more;
      }

-- ---- borrowed rows

-- a borrowed row
abbrev pub see : Bor ClearItem × Bor FullItem → Row
see row = (row.0.now, row.1.now)

module _ (lent : List (Bor ClearItem × Bor FullItem)) (these : List Row) (items : List ClearItem) (seen : map see lent ≡ these) (first : map (λ (row : Row). row.0) these ≡ items) where
  pub lent_rising : IsStrictlyIncreasing (ids_of items) → IsStrictlyIncreasing (map (λ (row : Bor ClearItem × Bor FullItem). row.0.now.id.0) lent)
  lent_rising rising =
      let numbers : map (λ (row : Bor ClearItem × Bor FullItem). row.0.now.id.0) lent ≡ ids_of items =
      told see (λ (row : Row). row.0.id.0) lent these seen ∙ numbers_of these items first in
      subst (λ t. IsStrictlyIncreasing t) (sym numbers) rising

  pub lent_version : (minor : ℕ) → IsOfVersion minor items → IsOfVersion minor (map (λ (row : Bor ClearItem × Bor FullItem). row.0.now) lent)
  lent_version minor version =
      let same : map (λ (row : Bor ClearItem × Bor FullItem). row.0.now) lent ≡ items = told see (λ (row : Row). row.0) lent these seen ∙ first in
      subst (λ t. IsOfVersion minor t) (sym same) version

  pub lent_kept : AreHashed these → AllByRecursion (λ (row : Bor ClearItem × Bor FullItem). row.0.now.hashed ≡ hashes row.1.now.attributes) lent
  lent_kept hashed = all_of_map (λ (row : Row). row.0.hashed ≡ hashes row.1.attributes) see lent (subst AreHashed (sym seen) hashed)

-- ---- the version

name_is : (x y : List ℕ) → is_name x y ≡ true → x ≡ y
name_is x y e = exact_bytes x y (is_equal (slice_cmp nat_cmp x y) e)

plain_items : (items : List ClearItem) → list_all (λ (item : ClearItem). is_name plain_content item.content) items ≡ true → AllByRecursion IsPlain items
plain_items [] all = tt
plain_items (item ∷ more) all =
    let step : (b : Bool) → is_name plain_content item.content ≡ b → AllByRecursion IsPlain (item ∷ more) =
    elim [
      | true ↦ λ is. let rest : list_all (λ (item : ClearItem). is_name plain_content item.content) more ≡ true = rw is at all in (sym (name_is plain_content item.content is), plain_items more rest)
      | false ↦ λ off. let never : false ≡ true = rw off at all in absurd cc
    ] in
    step (is_name plain_content item.content) refl

pub version_made : (minor : ℕ) (items : List ClearItem) → minor ≤ 1 → IsOfVersion (minor_made minor items) items
version_made minor items few =
    let step : (b : Bool) → list_all (λ (item : ClearItem). is_name plain_content item.content) items ≡ b → IsOfVersion (cond b minor 1) items =
    elim [
      | true ↦ λ is. record { known = few; plain = λ zero. plain_items items is }
      | false ↦ λ off. record { known = omega arith; plain = λ never. absurd (omega (arith, never)) }
    ] in
    step (list_all (λ (item : ClearItem). is_name plain_content item.content) items) refl
