use Rattle.bus_address.proofs.ValueLemmas.{step_other}
use Rattle.bus_address.proofs.value.next_byte.Goals as goal

pub returns-then-byte-ne37 : goal.returns-then-byte-ne37
returns-then-byte-ne37 c = step_other c.args.text.now c.in-Some.first.now c.in-Some.rest.now c.in-Some.ensures.cases.0 c.if-byte-ne37.true c.requires
