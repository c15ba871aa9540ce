use Rattle.std.proofs.Common.{◌≡◌, ◌++◌, take}
use Rattle.std.specs.List.{flat_map}
use Rattle.keyring_file.specs.Canonical.{pair_text}
use Rattle.keyring_seal.proofs.comparing.after_pairs.Given as goal

abbrev pub invariant-loop-pair : goal.invariant-loop-pair
invariant-loop-pair l = l.bytes ≡ flat_map pair_text (take l.pair-index l.pairs) ++ l.rest
