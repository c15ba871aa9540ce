use Rattle.std.proofs.Common.{◌≡◌, ◌-◌, nat_eq, []}
use Rattle.keyring_text.specs.FieldReading.{keyed_at}
use Rattle.keyring_text.proofs.Loops.{with_front, seen_after}
use Rattle.keyring_file.specs.declared.fault.ClearFault.TheVariants.{DuplicateId}
use Rattle.keyring_file.specs.Numbers.{Keeps}
use Rattle.keyring_file.specs.FileReading.{id_at, item_behind, so_many_items_at}
use Rattle.keyring_file.proofs.clear_reading.so_many_items_at.Given as goal

abbrev pub invariant-loop : goal.invariant-loop
invariant-loop l = record {
  so_far : with_front l.items.items (keyed_at id_at nat_eq DuplicateId (item_behind l.minor) (seen_after (λ x. x.id.0) l.items.items []) (l.count - l.counter) l.rest) ≡ so_many_items_at l.minor l.count l.bytes;
  kept : Keeps l.items.items l.numbers;
}
