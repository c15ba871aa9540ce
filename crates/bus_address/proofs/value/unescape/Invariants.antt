use Rattle.std.proofs.Common.{◌≡◌, ◌++◌, IsTrue, length}
use Rattle.bus_address.specs.Values.{is_value, unescaped}
use Rattle.bus_address.proofs.value.unescape.Given as goal

abbrev pub invariant-loop-byte : goal.invariant-loop-byte
invariant-loop-byte l = record {
  form : IsTrue (is_value l.left);
  so_far : l.bytes.items ++ unescaped l.left ≡ unescaped l.text;
}

abbrev pub decreases-loop-byte : goal.decreases-loop-byte
decreases-loop-byte l = length l.left
