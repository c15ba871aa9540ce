use Rattle.std.proofs.Common.{rules, refl, sym, subst}
use Rattle.collection_table.specs.Entries.{rows_of}
use Rattle.stem_choice.specs.UsedStems.{AreInOrder}
use Rattle.service_tables.specs.Sound.{AreKnown, AreSoundCollections}
use Rattle.service_tables.proofs.LoadedLemmas.{loaded-sound, stems-rise}
use Rattle.service_tables.proofs.StemLemmas.{loaded-known, loaded-stems}
use Rattle.service_tables.proofs.disk.Disk.open.Goals as goal

-- the stems of what was loaded rise
pub loaded-requires : goal.loaded-requires
loaded-requires g c = stems-rise c.in-Ok.loaded c.in-Ok.ensures.loaded.some

-- the folder as the load left it, and the collections of what was loaded
pub returns-in-Ok-clause-loaded : goal.returns-in-Ok-clause-loaded
returns-in-Ok-clause-loaded g c = record {
  loaded = c.in-Ok.loaded;
  loads = c.in-Ok.ensures.loaded;
  kept = rw (c.in_ok-collections-in-Ok.ensures, c.new.ensures.items, c.in_ok-used-in-Ok.ensures, c.found.ensures.slot) refl;
  starts = rw (c.in_ok-collections-in-Ok.ensures, c.found.ensures.rows, c.in_ok-used-in-Ok.ensures) refl;
  honest = c.load.ensures.honest;
  later = c.load.ensures.later;
  steady = c.load.ensures.steady;
}

-- they are sound, as what a start lists
pub returns-in-Ok-clause-sound : goal.returns-in-Ok-clause-sound
returns-in-Ok-clause-sound g c = record {
  collections = subst (λ entries. AreSoundCollections (rows_of entries)) (sym c.in_ok-collections-in-Ok.ensures) (loaded-sound c.in-Ok.loaded c.in-Ok.ensures.loaded.some);
  aliases = c.found.ensures.sound;
  certain = c.found.ensures.certain;
  known = subst (λ entries. AreKnown (rows_of entries)) (sym c.in_ok-collections-in-Ok.ensures) (loaded-known c.in-Ok.loaded.rings.items (rw c.deref.ensures.value at c.are_known.ensures));
  stems = rw (c.in_ok-collections-in-Ok.ensures, c.in_ok-used-in-Ok.ensures)
      (loaded-stems c.adding_a_stem_uses_it_alone.ensures c.in-Ok.loaded c.in-Ok.ensures.loaded.some (subst (λ used. AreInOrder used) c.in_ok-used-in-Ok.ensures c.as_slice-ordered.ensures.ordered));
}

pub returns-in-Folder-clause-cause : goal.returns-in-Folder-clause-cause
returns-in-Folder-clause-cause g c is = record {
  left = c.load.new.folder;
  honest = c.load.ensures.honest;
  later = c.load.ensures.later;
  steady = c.load.ensures.steady;
  cause = c.in-Err.ensures.cause (search rules);
}
