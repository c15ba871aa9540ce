-- Message by message.
use Rattle.bus_framing.proofs.LinkLemmas.{heard_on}
use Rattle.bus_framing.proofs.hearing_laws.what_is_heard_does_not_depend_on_cuts.Goals as goal

pub returns : goal.returns
returns c = λ from to saids piece linked heard. (heard_on piece from saids to linked heard).heard
