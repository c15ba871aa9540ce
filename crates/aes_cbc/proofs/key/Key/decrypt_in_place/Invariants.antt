use Rattle.std.proofs.Common.{◌≡◌, ◌-◌, ◌*◌, ◌/◌, ◌++◌, drop, length, take}
use Rattle.aes_cbc.specs.Aes.{key_schedule}
use Rattle.aes_cbc.specs.Cbc.{deciphered, decrypted}
use Rattle.aes_cbc.specs.State.{bytes_in}
use Rattle.aes_cbc.proofs.key.Key.decrypt_in_place.Given as goal

-- what is written, and what the rest will be, are the result
abbrev pub invariant-loop-i : goal.invariant-loop-i
invariant-loop-i l =
    take (16 * l.i) l.blocks ++ deciphered (key_schedule l.self) (bytes_in l.last) (length l.initial.blocks / 16 - l.i) (drop (16 * l.i) l.blocks)
    ≡ decrypted l.self l.fn.vector l.fn.blocks
