-- What is known of a collection's file, and its slot, as rows and slots have them.
use Rattle.std.proofs.Common.{◌≡◌, ℕ, Bool, true, false, List, [], ◌∷◌, Some, None, IfSome, refl, sym, ap, ◌∙◌}
use Rattle.std.specs.List.{AllByRecursion}
use Rattle.std.specs.Option.{option_map, option_map_or, option_or}
use Rattle.std.proofs.lemmas.Map.Made.{lookup-map_values}
use Rattle.kr_base.specs.Attributes.{is_name, value_at}
use Rattle.replace_slot.specs.Cell.{File, Known}
use Rattle.collection_store.specs.State.{CollectionState}
use Rattle.collection_table.specs.Entries.{Entries, row_of, rows_of, slots_of}
use Rattle.collection_table.specs.Rows.{CollectionRow}
use Rattle.collection_table.proofs.RowLemmas.{value-rows}
use Rattle.service_tables.specs.Disk.{DiskState}
use Rattle.service_tables.specs.Slots.{file_at, slot_at}

-- what is true of each value is true of the one at a stem
all-there : {S : Type 0} (stem : List ℕ) (P : S → Type 0) (entries : List (List ℕ × S)) → AllByRecursion (λ (e : List ℕ × S). P e.1) entries → IfSome (value_at stem entries) P
all-there stem P [] all = tt
all-there stem P (e ∷ more) all =
    let pass : (b : Bool) → is_name stem e.0 ≡ b → IfSome (value_at stem (e ∷ more)) P =
    elim [ true ↦ λ is. rw is all.0 | false ↦ λ off. rw off (all-there stem P more all.1) ] in
    pass (is_name stem e.0) refl

module _ {S : Type 0} (stem : List ℕ) (entries : Entries S) where
  value-slots : value_at stem (slots_of entries) ≡ option_map (λ (c : CollectionState S). c.slot) (value_at stem entries)
  value-slots = lookup-map_values (λ (c : CollectionState S). c.slot) (is_name stem) entries

  -- what is true of a collection's file and its slot is true of those at its stem
  pub kept-there : {F : Type 0} (P : File → S → Type 0) (disk : DiskState F S) (c : CollectionState S) → disk.slots ≡ slots_of entries → Some c ≡ value_at stem entries → P c.file c.slot
      → IfSome (slot_at stem disk) (P (file_at stem (rows_of entries)))
  kept-there P disk c slots there is =
      let found : value_at stem disk.slots ≡ Some c.slot = ap (value_at stem) slots ∙ value-slots ∙ ap (option_map (λ (c : CollectionState S). c.slot)) (sym there) in
      let slot : slot_at stem disk ≡ Some c.slot = ap (λ o. option_or o (value_at stem disk.spare)) found in
      let file : file_at stem (rows_of entries) ≡ c.file = ap (λ o. option_map_or (λ (row : CollectionRow). row.file) o (Known None)) (value-rows stem entries ∙ ap (option_map row_of) (sym there)) in
      rw (slot, file) is

  -- and without a collection, of the slot that is kept, if it is true of each of them and no file
  pub kept-missing : {F : Type 0} (P : File → S → Type 0) (disk : DiskState F S) → disk.slots ≡ slots_of entries → None ≡ value_at stem entries → AllByRecursion (λ (kept : List ℕ × S). P (Known None) kept.1) disk.spare
      → IfSome (slot_at stem disk) (P (file_at stem (rows_of entries)))
  kept-missing P disk slots none all =
      let missing : value_at stem disk.slots ≡ None = ap (value_at stem) slots ∙ value-slots ∙ ap (option_map (λ (c : CollectionState S). c.slot)) (sym none) in
      let slot : slot_at stem disk ≡ value_at stem disk.spare = ap (λ o. option_or o (value_at stem disk.spare)) missing in
      let file : file_at stem (rows_of entries) ≡ Known None = ap (λ o. option_map_or (λ (row : CollectionRow). row.file) o (Known None)) (value-rows stem entries ∙ ap (option_map row_of) (sym none)) in
      rw (slot, file) (all-there stem (P (Known None)) disk.spare all)
