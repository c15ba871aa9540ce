use Rattle.collection_table.proofs.entries.put_loaded.Goals as goal

-- the parts are those of the file
pub loaded-requires : goal.loaded-requires
loaded-requires g c = rw (c.into_parts-stem.ensures.cell, c.into_parts-stem.ensures.clear) c.into_parts-stem.ensures.shown
