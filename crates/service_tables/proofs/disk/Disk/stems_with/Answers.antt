use Rattle.std.proofs.Common.{◌≡◌, None, ap, subst, ◌∙◌, rules}
use Rattle.std.specs.Cmp.Lexicographic.{slice_cmp}
use Rattle.std.specs.List.Sorted.{IsStrictlySortedBy}
use Rattle.std.specs.Map.{keys_of}
use Rattle.std.specs.Option.{option_map}
use Rattle.std.specs.Ordering.{nat_cmp}
use Rattle.std.proofs.lemmas.Fn.{always_returns_same}
use Rattle.kr_base.specs.Attributes.{IsInOrder, value_at}
use Rattle.collection_table.specs.Entries.{row_of, rows_of}
use Rattle.collection_table.proofs.RowLemmas.{keys-rows, not-there, value-rows}
use Rattle.service_tables.proofs.StemLemmas.{key-inserted, key-missed}
use Rattle.service_tables.proofs.disk.Disk.stems_with.Goals as goal
use Rattle.service_tables.proofs.disk.Disk.stems_with.Goals.{in-Ok, in-Err+in_ok-insert-in-Err}

-- the stem isn't found, and is put where the search missed it
pub returns : goal.returns
returns g c = λ row.
    let stem = c.args.stem.now in
    let collections = c.args.self.now.collections.entries in
    let entries = rows_of collections in
    let ordered : IsInOrder entries = subst (λ l. IsStrictlySortedBy (slice_cmp nat_cmp) l) (keys-rows collections) c.entries-ordered.ensures.ordered in
    let none : value_at stem entries ≡ None = value-rows stem collections ∙ ap (option_map row_of) (not-there stem collections c.requires) in
    let stems : c.deref.result.now ≡ keys_of entries = c.deref.ensures.value ∙ c.in_ok-stems.ensures in
    elim c.match-binary_search_by.branch [
      | in-Ok w ↦
          let equal = w.in-Ok.ensures.position (λ p. slice_cmp nat_cmp p c.in_ok-added.added) (always_returns_same _ _ _ (λ a r h called. (search rules, search rules))) in
          absurd (key-missed stem row entries ordered w.in-Ok.field-0 none (rw stems at w.in-Ok.ensures.bound) (rw (stems, c.in_ok-added.ensures) at equal))
      | in-Err+in_ok-insert-in-Err w ↦
          let gap = w.in-Err.ensures.position (λ p. slice_cmp nat_cmp p c.in_ok-added.added) (always_returns_same _ _ _ (λ a r h called. (search rules, search rules))) in
          let made = key-inserted stem row entries ordered w.in-Err.place (rw stems at w.in-Err.ensures.bound) (rw (stems, c.in_ok-added.ensures) at gap) in
          rw (w.stems-is, w.in_ok-insert-in-Err.ensures.items, c.in_ok-stems.ensures, c.in_ok-added.ensures) made
    ]
