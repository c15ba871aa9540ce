use Rattle.std.proofs.Common.{arith}
use Rattle.load_laws.proofs.LawLemmas.{few-first, few-turns}
use Rattle.load_laws.proofs.SendLemmas.{load-few}
use Rattle.load_laws.proofs.answer_laws.a_load_has_few_events.Goals as goal

pub returns-clause-bytes : goal.returns-clause-bytes
returns-clause-bytes c items seed few = omega (arith, load-few items seed few)

pub returns-clause-requests : goal.returns-clause-requests
returns-clause-requests c most bytes asked first = few-first most bytes asked first

pub returns-clause-events : goal.returns-clause-events
returns-clause-events c conn state asked = few-turns conn asked state
