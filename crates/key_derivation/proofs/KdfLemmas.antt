-- The length of the digest from which a key and a vector are cut.
use Rattle.std.proofs.Common.{◌≡◌, ℕ, zero, suc, List, length}
use Rattle.sha2.specs.Sha256.{sha256}
use Rattle.sha2.proofs.Facts256.{length-sha256}
use Rattle.key_derivation.specs.Kdf.{hashed}

pub length-hashed : (n : ℕ) (message : List ℕ) → length (hashed n (sha256 message)) ≡ 32
unfolding hashed
length-hashed zero message = length-sha256 message
length-hashed (suc n) message = length-sha256 (hashed n (sha256 message))
