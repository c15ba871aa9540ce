use Rattle.std.proofs.Common.{◌≡◌, false, ◌∙◌, rules}
use Rattle.bus_address.specs.Addresses.{is_part}
use Rattle.bus_address.proofs.EntryLemmas.{fails_here}
use Rattle.bus_address.proofs.address.are_parts.Goals as goal

pub returns-then-not-is_part : goal.returns-then-not-is_part
returns-then-not-is_part c =
    let off : is_part c.in-Some.entry.now ≡ false = search rules in
    fails_here is_part 59 c.loop-entry.rest.now c.in-Some.entry.now c.in-Some.more.now c.in-Some.ensures off ∙ c.loop-entry.invariant
