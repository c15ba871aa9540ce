-- A collection that is to be stored under another key: whether that can be done, its row after it, and what a crash leaves of its file.
use Rattle.std.proofs.Common.{◌≡◌, ◌↔◌, ℕ, ◌<◌, ◌⊎◌, Bool, true, false, nat_le, length, IsTrue, IsSome, IfSome, List, [], ◌∷◌, map, zip, Option, Some, None, refl, sym, ap, subst, ◌∙◌, arith, inl, inr}
use Rattle.std.specs.Option.{option_map, option_map_or}
use Rattle.std.proofs.lemmas.Bool.{leb-false, leb-true}
use Rattle.kr_base.specs.Attributes.{value_at}
use Rattle.kr_outside.specs.Moments.{LeavesOnly}
use Rattle.kr_outside.specs.RenameDisk.{Image}
use Rattle.key_derivation.specs.Kdf.{Inputs, key_of, vector_of}
use Rattle.keyring_file.specs.Clear.{ClearPart}
use Rattle.replace_slot.specs.Cell.{File, Known, Doubt, IsOneOf, old_image}
use Rattle.service_tables.specs.keyring_seal.specs.Arranged.{Row}
use Rattle.service_tables.specs.keyring_seal.specs.Whole.{sealed}
use Rattle.service_tables.specs.collection_store.specs.Outcomes.{IsOldOrSealed, IsSame, IsStored, IsUnsure, most_for}
use Rattle.service_tables.specs.collection_store.specs.State.{CollectionState, Held}
use Rattle.service_tables.specs.collection_table.specs.Entries.{Entries, row_of, rows_of}
use Rattle.service_tables.specs.collection_table.specs.Rows.{CollectionRow, Rows, room_in}
use Rattle.service_tables.specs.collection_table.proofs.RowLemmas.{value-rows}
use Rattle.service_tables.specs.declared.fate.StoreFate.{StoreFate}
use Rattle.service_tables.specs.declared.fate.StoreFate.TheVariants as fate
use Rattle.service_tables.proofs.SlotLemmas.{leaves-weaker}
use Rattle.service_disk.specs.Rekeying.{can_rekey, can_rekey_row, content_under, fits_under, held_rekeyed, row_rekeyed}

-- a test that fails doesn't pass
never : false ≡ true → ⊥
never wrong = cc

old-one : (file : File) (image : Image) → image ≡ old_image file → IsOneOf file image
old-one (Known known) image is = is
old-one (Doubt old new) image is = inl is

module _ (key : Inputs) (now : ℕ) {S : Type 0} (old new : CollectionState S) where
  -- its file under the new key
  abbrev file-under : Held → List ℕ
  file-under held = sealed (content_under key now old.clear held) (key_of key) (vector_of key)

  -- ---- whether it can be stored

  abbrev Over : ℕ → Held → Type 0
  Over room held = most_for room old.file < length (file-under held)

  -- a call that didn't find the file too large
  pub fits-row : (room : ℕ) (Refused : Type 0) → (Refused → ⊥) → IsSome old.held → IfSome old.held (λ held. Over room held → Refused) → can_rekey_row key now room (row_of old) ≡ true
  fits-row room Refused not unlocked measured =
      let pass : (o : Option Held) → IsSome o → IfSome o (λ held. Over room held → Refused) → option_map_or (fits_under key now room old.file old.clear) o false ≡ true =
      elim [
        | None ↦ λ there over. absurd (never there)
        | Some held ↦ λ there over.
            let inner : (b : Bool) → nat_le (length (file-under held)) (most_for room old.file) ≡ b → b ≡ true =
            elim [ true ↦ λ is. refl | false ↦ λ is. absurd (not (over (leb-false (length (file-under held)) (most_for room old.file) is))) ] in
            inner (nat_le (length (file-under held)) (most_for room old.file)) refl
      ] in
      pass old.held unlocked measured

  -- and one that did
  pub large-row : (room : ℕ) → IsSome old.held → IfSome old.held (Over room) → can_rekey_row key now room (row_of old) ≡ false
  large-row room unlocked over =
      let pass : (o : Option Held) → IsSome o → IfSome o (Over room) → option_map_or (fits_under key now room old.file old.clear) o false ≡ false =
      elim [
        | None ↦ λ there large. absurd (never there)
        | Some held ↦ λ there large.
            let inner : (b : Bool) → nat_le (length (file-under held)) (most_for room old.file) ≡ b → b ≡ false =
            elim [
              | true ↦ λ is. absurd (let few = leb-true (length (file-under held)) (most_for room old.file) is in omega (arith, few, large))
              | false ↦ λ is. refl
            ] in
            inner (nat_le (length (file-under held)) (most_for room old.file)) refl
      ] in
      pass old.held unlocked over

  -- a locked one can't be stored
  pub locked-row : (b : Bool) (room : ℕ) → (IsTrue b ↔ IsSome old.held) → b ≡ false → can_rekey_row key now room (row_of old) ≡ false
  locked-row b room test off =
      let pass : (o : Option Held) → (IsTrue b ↔ IsSome o) → option_map_or (fits_under key now room old.file old.clear) o false ≡ false =
      elim [ None ↦ λ is. refl | Some held ↦ λ is. absurd (never (sym off ∙ is.1 refl)) ] in
      pass old.held test

  -- ---- its row

  abbrev becomes : StoreFate → Option Held → CollectionRow
  becomes some held = option_map_or (held_rekeyed key now some (row_of old)) held (row_of old)

  abbrev WasStored : Held → Type 0
  WasStored held = IsStored (content_under key now old.clear held) (key_of key) (vector_of key) new

  abbrev MayBeStored : Held → Type 0
  MayBeStored held = IsUnsure (content_under key now old.clear held) (key_of key) (vector_of key) old new

  pub row-under : IsSome old.held → IfSome old.held WasStored → row_of new ≡ row_rekeyed key now fate.Stored (row_of old)
  row-under unlocked is =
      let pass : (o : Option Held) → old.held ≡ o → IsSome o → IfSome o WasStored → row_of new ≡ row_rekeyed key now fate.Stored (row_of old) =
      elim [
        | None ↦ λ at there its. absurd (never there)
        | Some held ↦ λ at there its. (λ i. record { file = its.file i; clear = its.clear i; other = its.other i; held = its.held i }) ∙ sym (ap (becomes fate.Stored) at)
      ] in
      pass old.held refl unlocked is

  pub row-perhaps : IsSome old.held → IfSome old.held MayBeStored → row_of new ≡ row_rekeyed key now fate.Unsure (row_of old)
  row-perhaps unlocked is =
      let pass : (o : Option Held) → old.held ≡ o → IsSome o → IfSome o MayBeStored → row_of new ≡ row_rekeyed key now fate.Unsure (row_of old) =
      elim [
        | None ↦ λ at there its. absurd (never there)
        | Some held ↦ λ at there its. (λ i. record { file = its.file i; clear = its.clear i; other = its.other i; held = its.locked i }) ∙ sym (ap (becomes fate.Unsure) at)
      ] in
      pass old.held refl unlocked is

  pub row-as-before : IsSame old new → row_of new ≡ row_rekeyed key now fate.Before (row_of old)
  row-as-before same =
      let pass : (o : Option Held) → becomes fate.Before o ≡ row_of old = elim [ None ↦ refl | Some held ↦ refl ] in
      (λ i. record { file = same.file i; clear = same.clear i; other = same.other i; held = same.held i }) ∙ sym (pass old.held)

  pub all-as-before : IsSame old new → new.slot ≡ old.slot → new ≡ old
  all-as-before same slot = λ i. record { slot = slot i; file = same.file i; clear = same.clear i; other = same.other i; held = same.held i }

  -- ---- what a crash leaves of its file

  -- the images before and after
  abbrev Either : Image → Type 0
  Either image = IsOneOf old.file image ⊎ IsOneOf new.file image

  abbrev OldOrUnder : Held → Image → Type 0
  OldOrUnder held = IsOldOrSealed old.file (content_under key now old.clear held) (key_of key) (vector_of key)

  module _ (moment : S → ℕ) (left_since : S → ℕ → Image → Type 0) where
    abbrev Leaves : (Image → Type 0) → Type 0
    Leaves images = LeavesOnly moment left_since old.slot new.slot images

    pub moment-under : IsSome old.held → IfSome old.held WasStored → IfSome old.held (λ held. Leaves (OldOrUnder held)) → Leaves Either
    moment-under unlocked is leaves =
        let pass : (o : Option Held) → IsSome o → IfSome o WasStored → IfSome o (λ held. Leaves (OldOrUnder held)) → Leaves Either =
        elim [
          | None ↦ λ there its all. absurd (never there)
          | Some held ↦ λ there its all.
              leaves-weaker moment left_since old.slot new.slot (OldOrUnder held) Either
              (λ image. elim [ inl was ↦ inl (old-one old.file image was) | inr one ↦ inr (subst (λ (f : File). IsOneOf f image) (sym its.file) one) ]) all
        ] in
        pass old.held unlocked is leaves

    pub moment-perhaps : IsSome old.held → IfSome old.held MayBeStored → IfSome old.held (λ held. Leaves (OldOrUnder held)) → Leaves Either
    moment-perhaps unlocked is leaves =
        let pass : (o : Option Held) → IsSome o → IfSome o MayBeStored → IfSome o (λ held. Leaves (OldOrUnder held)) → Leaves Either =
        elim [
          | None ↦ λ there its all. absurd (never there)
          | Some held ↦ λ there its all.
              leaves-weaker moment left_since old.slot new.slot (OldOrUnder held) Either
              (λ image. elim [ inl was ↦ inl (old-one old.file image was) | inr one ↦ inr (subst (λ (f : File). IsOneOf f image) (sym its.file) (inr one)) ]) all
        ] in
        pass old.held unlocked is leaves

    pub moment-as-before : Leaves (IsOneOf old.file) → Leaves Either
    moment-as-before leaves = leaves-weaker moment left_since old.slot new.slot (IsOneOf old.file) Either (λ image one. inl one) leaves

-- ---- its items

same-rows : (these : List Row) → zip (map (λ (row : Row). row.0) these) (map (λ (row : Row). row.1) these) ≡ these
same-rows [] = refl
same-rows (row ∷ these) = ap (λ more. row ∷ more) (same-rows these)

pub items-kept : (key : Inputs) (now : ℕ) (row : CollectionRow) (held : Held) → row.held ≡ Some held
    → (row_rekeyed key now fate.Stored row).held ≡ Some (record { key = key_of key; vector = vector_of key; rows = held.rows })
items-kept key now row held is =
    ap (λ (o : Option Held). (option_map_or (held_rekeyed key now fate.Stored row) o row).held) is
    ∙ ap (λ these. Some (record { key = key_of key; vector = vector_of key; rows = these })) (same-rows held.rows)

-- ---- the collection of a stem

module _ (key : Inputs) (now : ℕ) (stem : List ℕ) {S : Type 0} (entries : Entries S) where
  abbrev these-rows : Rows
  these-rows = rows_of entries

  abbrev can-in : Option CollectionRow → Bool
  can-in row = option_map_or (can_rekey_row key now (room_in these-rows)) row false

  -- there is none
  pub can-missing : None ≡ value_at stem entries → can_rekey key now stem these-rows ≡ false
  can-missing none = ap can-in (value-rows stem entries ∙ ap (option_map row_of) (sym none))

  -- it is this one
  pub can-there : (was : CollectionState S) (room : ℕ) (b : Bool) → value_at stem entries ≡ Some was → room ≡ room_in these-rows → can_rekey_row key now room (row_of was) ≡ b → can_rekey key now stem these-rows ≡ b
  can-there was room b there same is =
      ap can-in (value-rows stem entries ∙ ap (option_map row_of) there) ∙ ap (λ n. can_rekey_row key now n (row_of was)) (sym same) ∙ is
