-- What the table of collections says of one of them, as the questions of a plan have it.
use Rattle.std.proofs.Common.{◌≡◌, ℕ, List, [], map, Option, Some, None, sym, ap, ◌∙◌}
use Rattle.std.specs.Option.{option_map, option_map_or}
use Rattle.kr_base.specs.Attributes.{value_at}
use Rattle.kr_base.specs.declared.attributes.AttrValue.{AttrValue}
use Rattle.kr_base.specs.declared.ids.ItemId.{ItemId}
use Rattle.collection_store.specs.CollectionReading.{found}
use Rattle.collection_store.specs.State.{CollectionState}
use Rattle.collection_table.specs.Entries.{Entries, row_of, rows_of}
use Rattle.collection_table.specs.Rows as collections
use Rattle.collection_table.specs.Rows.{CollectionRow}
use Rattle.collection_table.proofs.RowLemmas.{ids_are, value-rows}
use Rattle.service_tables.specs.TablesReading.{clear_times, no_times}
use Rattle.service_tables.specs.declared.times.Times.{Times}

module _ {S : Type 0} (stem : List ℕ) (wanted : List (List ℕ × AttrValue)) (entries : Entries S) where
  -- the items that match in a collection, by its row
  abbrev ids_in : Option CollectionRow → List ItemId
  ids_in row = option_map_or (λ row. (collections.found_in wanted (stem, row)).ids) row []

  -- what is found in the collection of the stem is found by its row
  pub found-there : (c : CollectionState S) (ids : List ItemId) → Some c ≡ value_at stem entries → map (λ (id : ItemId). id.0) ids ≡ found wanted c.clear c.held
      → ids ≡ ids_in (value_at stem (rows_of entries))
  found-there c ids there are = ids_are ids (found wanted c.clear c.held) are ∙ sym (ap ids_in (value-rows stem entries ∙ ap (option_map row_of) (sym there)))

  -- nothing is found if there is no collection of the stem
  pub found-missing : None ≡ value_at stem entries → [] ≡ ids_in (value_at stem (rows_of entries))
  found-missing none = sym (ap ids_in (value-rows stem entries ∙ ap (option_map row_of) (sym none)))

module _ {S : Type 0} (stem : List ℕ) (entries : Entries S) where
  -- the label of a collection, by its row
  abbrev label_in : Option CollectionRow → List ℕ
  label_in row = option_map_or (λ (row : CollectionRow). row.clear.name) row []

  -- the label of the collection of the stem is that of its row
  pub label-there : (c : CollectionState S) → Some c ≡ value_at stem entries → c.clear.name ≡ label_in (value_at stem (rows_of entries))
  label-there c there = sym (ap label_in (value-rows stem entries ∙ ap (option_map row_of) (sym there)))

  -- there is none where there is no collection of the stem
  pub label-missing : None ≡ value_at stem entries → [] ≡ label_in (value_at stem (rows_of entries))
  label-missing none = sym (ap label_in (value-rows stem entries ∙ ap (option_map row_of) (sym none)))

  -- the same of its times
  abbrev times_in : Option CollectionRow → Times
  times_in row = option_map_or clear_times row no_times

  pub times-there : (c : CollectionState S) → Some c ≡ value_at stem entries → record { created = c.clear.created; modified = c.clear.modified } ≡ times_in (value_at stem (rows_of entries))
  times-there c there = sym (ap times_in (value-rows stem entries ∙ ap (option_map row_of) (sym there)))

  pub times-missing : None ≡ value_at stem entries → no_times ≡ times_in (value_at stem (rows_of entries))
  times-missing none = sym (ap times_in (value-rows stem entries ∙ ap (option_map row_of) (sym none)))
