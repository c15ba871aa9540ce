use Rattle.std.proofs.Common.{◌≡◌, ◌-◌}
use Rattle.keyring_text.specs.FieldReading.{all_at}
use Rattle.keyring_text.proofs.Loops.{with_front}
use Rattle.keyring_file.specs.FileReading.{access_at}
use Rattle.keyring_file.proofs.area_reading.so_many_accesses_at.Given as goal

abbrev pub invariant-loop : goal.invariant-loop
invariant-loop l = with_front l.entries.items (all_at access_at (l.count - l.counter) l.rest) ≡ all_at access_at l.count l.bytes
