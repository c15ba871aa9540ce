use Rattle.std.proofs.Common.{sym, ◌∙◌}
use Rattle.service_calls.specs.service_events.specs.Plan.{KeyTerms}
use Rattle.service_calls.specs.Rows.{rows_of}
use Rattle.service_calls.specs.service_events.specs.Run.{asked}
use Rattle.service_answers.proofs.NewLemmas.{can-room, cannot-count, cannot-terms, terms-are}
use Rattle.service_answers.proofs.derived_key.can_make.Goals as goal

-- the key has other terms
pub returns-then-not-are_terms : goal.returns-then-not-are_terms
returns-then-not-are_terms g c = λ conn now.
    let key = c.args.key.now in
    let terms : KeyTerms = record { salt = key.salt; iterations = key.iterations } in
    cannot-terms c.args.label.now c.args.salt.now terms (asked conn (record { now = now; value = key.password }) (rows_of c.args.tables.now))
    (terms-are c.are_terms.result c.args.salt.now terms c.are_terms.ensures.terms ∙ c.if-not-are_terms.true)

-- no more collections may be there
pub returns-then-not-has_place : goal.returns-then-not-has_place
returns-then-not-has_place g c = λ conn now.
    let key = c.args.key.now in
    let terms : KeyTerms = record { salt = key.salt; iterations = key.iterations } in
    cannot-count c.args.label.now c.args.salt.now terms (asked conn (record { now = now; value = key.password }) (rows_of c.args.tables.now))
    (terms-are c.are_terms.result c.args.salt.now terms c.are_terms.ensures.terms ∙ c.if-not-are_terms.false) (sym c.has_place.ensures ∙ c.if-not-has_place.true)

-- there is room for its file, or there isn't
pub returns : goal.returns
returns g c = λ conn now.
    let key = c.args.key.now in
    let terms : KeyTerms = record { salt = key.salt; iterations = key.iterations } in
    can-room c.args.label.now c.args.salt.now terms (asked conn (record { now = now; value = key.password }) (rows_of c.args.tables.now)) c.has_room.result
    (terms-are c.are_terms.result c.args.salt.now terms c.are_terms.ensures.terms ∙ c.if-not-are_terms.false) (sym c.has_place.ensures ∙ c.if-not-has_place.false)
    (c.has_room.ensures key now c.are_terms.ensures.eight)
