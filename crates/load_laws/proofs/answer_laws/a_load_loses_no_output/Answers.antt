use Rattle.load_laws.proofs.FitLemmas.{load-fit}
use Rattle.load_laws.proofs.answer_laws.a_load_loses_no_output.Goals as goal

pub returns : goal.returns
returns c items seed contents asked few sound empty unused are legal faultless finished =
    load-fit c.short_announcements_fit.ensures items seed contents asked few sound empty unused are legal faultless finished
