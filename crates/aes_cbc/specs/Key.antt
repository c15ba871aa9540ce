-- What the type of a key guarantees of its fields.
use Rattle.std.specs.Prelude.{◌≡◌}
use Rattle.aes_cbc.specs.Aes.{key_schedule}
use Rattle.aes_cbc.specs.State.{IsInverted}
use Rattle.aes_cbc.specs.declared.key.Key.TheInside.{Inside}

-- both schedules are those of the key's bytes
pub record IsKey (k : Inside) : Type 0 where
  pub encrypting : k.encrypting ≡ key_schedule k.bytes
  pub decrypting : IsInverted k.decrypting k.encrypting
