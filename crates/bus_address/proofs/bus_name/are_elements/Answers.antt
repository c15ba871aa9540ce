use Rattle.std.proofs.Common.{◌≡◌, false, ◌∙◌, rules}
use Rattle.bus_address.specs.BusNames.{is_element}
use Rattle.bus_address.proofs.EntryLemmas.{fails_here}
use Rattle.bus_address.proofs.bus_name.are_elements.Goals as goal

pub returns-then-not-is_element : goal.returns-then-not-is_element
returns-then-not-is_element c =
    let off : is_element c.in-Some.element.now ≡ false = search rules in
    fails_here is_element 46 c.loop-element.rest.now c.in-Some.element.now c.in-Some.more.now c.in-Some.ensures off ∙ c.loop-element.invariant
