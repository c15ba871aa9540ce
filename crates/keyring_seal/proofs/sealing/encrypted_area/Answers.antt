use Rattle.std.specs.List.{flat_map}
use Rattle.keyring_file.specs.Canonical.{item_text}
use Rattle.keyring_seal.proofs.SealLemmas.{blocks}
use Rattle.keyring_seal.proofs.sealing.encrypted_area.Goals as goal

pub encrypt_in_place-requires : goal.encrypt_in_place-requires
encrypt_in_place-requires c =
    rw (c.as_mut_slice.ensures.value, c.in_ok-put_area.ensures) (blocks (flat_map (λ row. item_text row.1.now) c.args.rows.now))
