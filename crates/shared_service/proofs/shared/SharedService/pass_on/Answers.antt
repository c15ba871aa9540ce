use Rattle.std.proofs.Common.{rules, ◌∷◌, [], sym, ◌∙◌, subst}
use Rattle.shared_service.specs.Ends.{StandsFor}
use Rattle.shared_service.proofs.Ends.{one-of}
use Rattle.shared_service.proofs.shared.SharedService.pass_on.Goals as goal

pub give_back-requires-clause-stands : goal.give_back-requires-clause-stands
give_back-requires-clause-stands g c = λ start at. record { history = c.requires.ended.none (search rules) start at; steady = c.requires.steady start at; watched = c.requires.watched }

pub record-requires-clause-recorded : goal.record-requires-clause-recorded
record-requires-clause-recorded g c =
    let one = c.requires.ended.one (search rules) in
    (one.0, record { newest_is = one.1; stands = λ start at. record { history = one.2 start at; steady = c.requires.steady start at; watched = c.requires.watched } })

pub returns-else-total-count-clause-recorded : goal.returns-else-total-count-clause-recorded
returns-else-total-count-clause-recorded g c =
    let one = c.requires.ended.one (search rules) in
    λ event not is.
    let stands = subst (λ e. StandsFor c.args.kept.service.value.history c.args.inner.now (e ∷ [])) (one-of one.0 event (sym one.1 ∙ is)) one.2 in
    c.record.ensures event record { newest_is = is; stands = λ start at. record { history = stands start at; steady = c.requires.steady start at; watched = c.requires.watched } }
