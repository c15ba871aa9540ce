-- The collections stay sound once one of them was to be stored under another key.
use Rattle.std.proofs.Common.{◌≡◌, ◌≤◌, ℕ, ◌^◌, ◌<◌, true, false, IfSome, List, length, Option, Some, None, refl, sym, ap, subst, ◌∙◌, arith}
use Rattle.std.specs.Option.{option_map_or}
use Rattle.std.proofs.lemmas.Bool.{leb-true}
use Rattle.kr_base.specs.Attributes.{value_at}
use Rattle.key_derivation.specs.Kdf.{Inputs, key_of, vector_of}
use Rattle.keyring_file.specs.ClearText.{most_iterations}
use Rattle.service_prompts.specs.keyring_seal.specs.Whole.{most_bytes, sealed}
use Rattle.service_prompts.specs.collection_store.specs.Outcomes.{most_for}
use Rattle.service_prompts.specs.collection_store.specs.State.{Held}
use Rattle.service_prompts.specs.collection_table.specs.Rows.{CollectionRow, Rows, room_in}
use Rattle.service_prompts.specs.collection_table.proofs.EntryLemmas.{changed_in_order}
use Rattle.service_disk.specs.Rekeying.{can_rekey, can_rekey_row, content_under, fits_under, held_rekeyed, row_rekeyed, rows_rekeyed}
use Rattle.service_prompts.specs.service_tables.specs.Sound.{AreShown, AreSoundCollections, AreSoundItems, HoldsShown, IsSoundCollection}
use Rattle.service_prompts.specs.service_tables.specs.declared.fate.StoreFate.{StoreFate}
use Rattle.service_prompts.specs.service_tables.specs.declared.fate.StoreFate.TheVariants as fate
use Rattle.service_prompts.specs.service_tables.proofs.CollectionLemmas.{at-stem, each-changed}
use Rattle.service_prompts.specs.service_tables.proofs.HeldLemmas.{held-up}
use Rattle.service_prompts.specs.service_tables.proofs.StoredLemmas.{IsSoundContent, front-under, stored-row, stored-sound, unsure-row}

-- ---- a collection that is stored under a key

module _ (key : Inputs) (now : ℕ) (small : now < 2 ^ 64) (eight : length key.salt ≡ 8) (few : key.iterations ≤ most_iterations) where
  content-sound : (row : CollectionRow) (held : Held) → AreShown row.clear → AreSoundItems held → HoldsShown row.file row.clear held → IsSoundContent (content_under key now row.clear held)
  content-sound row held shown all holds =
      stored-sound now (record row.clear { salt = key.salt; iterations = key.iterations }) held.rows small (front-under key.salt key.iterations row.clear eight few shown) all
      (held-up row.clear held shown holds.items)

  -- the file under the key isn't too long
  abbrev IsWithin : CollectionRow → Held → Type 0
  IsWithin row held = length (sealed (content_under key now row.clear held) (key_of key) (vector_of key)) ≤ most_bytes

  held-sound : (stem : List ℕ) (some : StoreFate) (row : CollectionRow) (held : Held) → AreSoundItems held → HoldsShown row.file row.clear held → IsWithin row held → IsSoundCollection (stem, row)
      → IsSoundCollection (stem, held_rekeyed key now some row held)
  held-sound stem fate.Stored row held all holds within sound =
      stored-row stem (content_under key now row.clear held) (key_of key) (vector_of key) sound.stem (content-sound row held sound.shown all holds) within
  held-sound stem fate.Before row held all holds within sound = sound
  held-sound stem fate.Unsure row held all holds within sound =
      unsure-row stem (content_under key now row.clear held) (key_of key) (vector_of key) row sound holds.known (content-sound row held sound.shown all holds) within

  row-sound : (stem : List ℕ) (some : StoreFate) (row : CollectionRow) → IfSome row.held (IsWithin row) → IsSoundCollection (stem, row) → IsSoundCollection (stem, row_rekeyed key now some row)
  row-sound stem some row within sound =
      let becomes : Option Held → CollectionRow = λ o. option_map_or (held_rekeyed key now some row) o row in
      let pass : (o : Option Held) → row.held ≡ o → IsSoundCollection (stem, becomes row.held) =
      elim [
        | None ↦ λ is. subst (λ (r : CollectionRow). IsSoundCollection (stem, r)) (sym (ap becomes is)) sound
        | Some held ↦ λ is.
            subst (λ (r : CollectionRow). IsSoundCollection (stem, r)) (sym (ap becomes is))
            (held-sound stem some row held (subst (λ o. IfSome o AreSoundItems) is sound.held) (subst (λ o. IfSome o (HoldsShown row.file row.clear)) is sound.holds) (subst (λ o. IfSome o (IsWithin row)) is within) sound)
      ] in
      pass row.held refl

  -- a collection that can be stored under the key has a file that isn't too long
  fits-row : (stem : List ℕ) (these : Rows) → can_rekey key now stem these ≡ true → (row : CollectionRow) → value_at stem these ≡ Some row → IfSome row.held (IsWithin row)
  fits-row stem these can row at =
      let here : can_rekey_row key now (room_in these) row ≡ true = sym (ap (λ o. option_map_or (can_rekey_row key now (room_in these)) o false) at) ∙ can in
      let inner : (h : Option Held) → option_map_or (fits_under key now (room_in these) row.file row.clear) h false ≡ true → IfSome h (IsWithin row) =
      elim [
        | None ↦ λ is. tt
        | Some held ↦ λ is.
            let long = length (sealed (content_under key now row.clear held) (key_of key) (vector_of key)) in
            let most = most_for (room_in these) row.file in
            let under : most ≤ most_bytes = omega arith in
            let fits : long ≤ most = leb-true long most is in
            omega (arith, fits, under)
      ] in
      inner row.held here

  -- a collection that could be stored under another key, however that ended
  pub sound-rekeyed : (stem : List ℕ) (some : StoreFate) (these : Rows) → can_rekey key now stem these ≡ true → AreSoundCollections these → AreSoundCollections (rows_rekeyed stem key now some these)
  sound-rekeyed stem some these can sound = record {
    ordered = changed_in_order stem (row_rekeyed key now some) these sound.ordered;
    each = each-changed IsSoundCollection stem (row_rekeyed key now some) these sound.ordered sound.each
        (λ row at. row-sound stem some row (fits-row stem these can row at) (at-stem IsSoundCollection stem row these sound.each at));
  }
