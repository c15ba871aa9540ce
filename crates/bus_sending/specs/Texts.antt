-- The messages that are written on a link, one after the other (D-Bus Specification, "Message Format", the serial).
use Rattle.std.specs.Prelude.{ℕ, ◌+◌, ◌%◌, List, [], ◌++◌}
use Rattle.secret_calls.specs.Serials.{last_serial}

-- the bytes that are to be written, and how many messages were put before the next one, modulo the number of serials
pub record Written : Type 0 where
  pub bytes : List ℕ
  pub taken : ℕ

-- nothing was put
abbrev pub nothing : Written
nothing = record { bytes = []; taken = 0 }

-- one more message, which has the next serial
abbrev pub with_message : List ℕ → Written → Written
with_message message before = record { bytes = before.bytes ++ message; taken = (before.taken + 1) % last_serial }

-- the bytes were written
abbrev pub written_out : Written → Written
written_out before = record { bytes = []; taken = before.taken }
