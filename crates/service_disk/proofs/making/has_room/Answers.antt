use Rattle.std.proofs.Common.{◌+◌, min, nat_le, ◌∙◌}
use Rattle.service_tables.specs.keyring_seal.specs.Whole.{most_bytes}
use Rattle.service_tables.specs.collection_table.specs.Entries.{rows_of}
use Rattle.service_disk.proofs.MakingLemmas.{room-tested}
use Rattle.service_disk.proofs.making.has_room.Goals as goal

-- a file without items has 100 bytes besides its label
pub returns : goal.returns
returns g c = λ key now salt.
    c.is_within.ensures
    ∙ (λ i. nat_le (100 + c.len.ensures i) (min most_bytes (c.room.ensures i)))
    ∙ room-tested (record { label = c.args.label.now; key = key; now = now }) (rows_of c.args.disk.now.collections.entries) salt
