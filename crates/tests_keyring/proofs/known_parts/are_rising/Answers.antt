use Rattle.std.proofs.Common.{arith}
use Rattle.keyring_file.specs.declared.clear.ClearItem.{ClearItem}
use Rattle.keyring_seal.proofs.RisingLemmas.{rising_by_number, rising_end}
use Rattle.tests_keyring.proofs.known_parts.are_rising.Goals as goal

pub returns : goal.returns
returns c = λ _. rising_by_number (λ (item : ClearItem). item.id.0) c.args.items.now (c.loop-i.invariant (rising_end (λ item. item.id.0) c.args.items.now c.loop-i.i (omega arith)))
