use Rattle.load_plan.specs.Plan.{plan}
use Rattle.load_laws.proofs.SendLemmas.{load-first, load-opens, load-requests, load-stream}
use Rattle.load_laws.proofs.answer_laws.a_load_is_read_whole.Goals as goal

pub returns-clause-opened : goal.returns-clause-opened
returns-clause-opened c uid items seed guid fits = load-opens uid guid (plan items seed) fits

pub returns-clause-stream : goal.returns-clause-stream
returns-clause-stream c items seed few = load-stream c.a_call_is_read_again.ensures.message items seed few

pub returns-clause-requests : goal.returns-clause-requests
returns-clause-requests c items seed asked few are = load-requests c.a_call_is_read_again.ensures.call items seed asked few are

pub returns-clause-first : goal.returns-clause-first
returns-clause-first c items seed asked few first = load-first c.a_call_is_read_again.ensures.message c.a_call_is_read_again.ensures.call items seed asked few first
