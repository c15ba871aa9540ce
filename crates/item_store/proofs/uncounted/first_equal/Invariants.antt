use Rattle.item_store.proofs.uncounted.first_equal.Given as goal

abbrev pub ghosts-first_by : goal.ghosts-first_by
ghosts-first_by a = record { name = a.blank.name; parts = a.blank.parts }
