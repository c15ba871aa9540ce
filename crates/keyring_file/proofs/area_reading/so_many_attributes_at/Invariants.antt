use Rattle.std.proofs.Common.{◌≡◌, ℕ, ◌-◌, List, []}
use Rattle.std.specs.List.{list_any}
use Rattle.kr_base.specs.Attributes.{is_name}
use Rattle.keyring_text.specs.declared.fault.FieldFault.TheVariants.{DuplicateName}
use Rattle.keyring_text.specs.FieldReading.{text_at, keyed_at}
use Rattle.keyring_text.proofs.Loops.{with_front, seen_after}
use Rattle.keyring_file.specs.Names.{has_name}
use Rattle.keyring_file.specs.FileReading.{attribute_at, so_many_attributes_at}
use Rattle.keyring_file.proofs.area_reading.so_many_attributes_at.Given as goal

abbrev pub invariant-loop : goal.invariant-loop
invariant-loop l = record {
  so_far : with_front l.pairs.items (keyed_at text_at is_name DuplicateName attribute_at (seen_after (λ p. p.0) l.pairs.items []) (l.count - l.counter) l.rest) ≡ so_many_attributes_at l.count l.bytes;
  agree : (q : List ℕ) → has_name l.names q ≡ list_any (is_name q) (seen_after (λ p. p.0) l.pairs.items []);
}
