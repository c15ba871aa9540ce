use Rattle.std.proofs.Common.{◌≡◌, ◌-◌}
use Rattle.keyring_text.specs.FieldReading.{all_at}
use Rattle.keyring_text.proofs.Loops.{with_front}
use Rattle.keyring_file.specs.FileReading.{item_at}
use Rattle.keyring_file.proofs.area_reading.items_of.Given as goal

abbrev pub invariant-loop : goal.invariant-loop
invariant-loop l = with_front l.items.items (all_at item_at (l.count - l.counter) l.rest) ≡ all_at item_at l.count l.bytes
