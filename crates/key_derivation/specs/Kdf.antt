-- GNOME keyring file format: the key and the initialization vector of a file, from its password.
use Rattle.std.specs.Prelude.{ℕ, zero, suc, ◌-◌, List, ◌++◌, take, drop}
use Rattle.sha2.specs.Sha256.{sha256}

-- what a key is derived from
pub record Inputs : Type 0 where
  pub password : List ℕ
  pub salt : List ℕ
  pub iterations : ℕ

-- SHA-256 n times over
unfoldable pub hashed : ℕ → List ℕ → List ℕ
hashed zero digest = digest
hashed (suc n) digest = sha256 (hashed n digest)

-- the digest of the password and the salt, and of each digest again, as often as there are iterations
-- in all; zero iterations count as one
abbrev pub kdf : List ℕ → List ℕ → ℕ → List ℕ
kdf password salt iterations = hashed (iterations - 1) (sha256 (password ++ salt))

-- the key: the first half of the digest
abbrev pub key_of : Inputs → List ℕ
key_of from = take 16 (kdf from.password from.salt from.iterations)

-- the vector: the second half of the digest
abbrev pub vector_of : Inputs → List ℕ
vector_of from = drop 16 (kdf from.password from.salt from.iterations)
