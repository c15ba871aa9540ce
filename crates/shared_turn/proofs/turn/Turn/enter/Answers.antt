use Rattle.std.proofs.Common.{rules, ◌≡◌, ◌∷◌, false, Some, sym, subst, ap, ◌∙◌}
use Rattle.std.specs.Prelude.{IsSome}
use Rattle.atomic_table.specs.Table.{rest}
use Rattle.shared_turn.specs.Seats.{IsReady, with_ticket}
use Rattle.shared_turn.specs.Steps.{Turns}
use Rattle.shared_turn.proofs.Keeps.{enters}
use Rattle.shared_turn.proofs.Seating.{some-is}
use Rattle.shared_turn.proofs.Readies.{inside-ready, inside-enters, slot-value}
use Rattle.shared_turn.proofs.turn.Turn.enter.Goals as goal

pub load-served-requires : goal.load-served-requires
load-served-requires g c =
    let free : c.pass.inside.place.me.0.has_turn ≡ false = search rules in
    let same : c.loop.pass-inside.place.me ≡ with_ticket c.draw-ticket.result c.pass.inside.place.me = search rules in (
      search rules,
      search rules,
      enters g.C.Chronicle.stands _ _ _ _ c.loop.pass-inside.place.me c.draw-ticket.result (c.pass.invariant.start.0, ap (λ m. m.0.start) same ∙ c.pass.invariant.start.1) (ap (λ m. m.0.ticket) same)
          (ap (λ m. m.0.has_turn) same ∙ free),
    )

pub exchange-requires : goal.exchange-requires
exchange-requires g c =
    let same : c.loop.pass-inside.place.me ≡ with_ticket c.draw-ticket.result c.pass.inside.place.me = search rules in
    let found : c.load-served.result ≡ c.draw-ticket.result = search rules in
    let turns = c.load-served.ensures.2.hit (ap (λ m. m.0.ticket) same ∙ (λ i. Some (sym found i))) in
    (search rules, (Some turns.value, ap (λ m. m.1) turns.is ∙ ap (λ m. (0, Some turns.value) ∷ rest m.1) (sym turns.is)))

pub unwrap-requires : goal.unwrap-requires
unwrap-requires g c =
    let same : c.loop.pass-inside.place.me ≡ with_ticket c.draw-ticket.result c.pass.inside.place.me = search rules in
    let found : c.load-served.result ≡ c.draw-ticket.result = search rules in
    let turns = c.load-served.ensures.2.hit (ap (λ m. m.0.ticket) same ∙ (λ i. Some (sym found i))) in
    subst (λ r. IsSome r) (sym (slot-value _ _ _ _ (sym c.exchange.ensures.2 ∙ ap (λ m. m.1) turns.is))) (search rules)

pub invariant_of-pass : goal.invariant_of-pass
invariant_of-pass g c =
    let free : c.pass.inside.place.me.0.has_turn ≡ false = search rules in
    let same : c.loop.pass-inside.place.me ≡ with_ticket c.draw-ticket.result c.pass.inside.place.me = search rules in
    let found : c.load-served.result ≡ c.draw-ticket.result = search rules in
    let turns = c.load-served.ensures.2.hit (ap (λ m. m.0.ticket) same ∙ (λ i. Some (sym found i))) in
    subst (λ m. IsReady m) (sym c.exchange.ensures.3)
    (inside-ready g.C.Chronicle.stands c.pass.inside.place.me c.load-served.new.seat.me c.draw-ticket.result (subst (λ m. Turns g.C.Chronicle.stands m c.load-served.new.seat.me) same turns) c.pass.invariant free)

pub returns-then-served-ticket : goal.returns-then-served-ticket
returns-then-served-ticket g c =
    let same : c.loop.pass-inside.place.me ≡ with_ticket c.draw-ticket.result c.pass.inside.place.me = search rules in
    let found : c.load-served.result ≡ c.draw-ticket.result = search rules in
    let turns = c.load-served.ensures.2.hit (ap (λ m. m.0.ticket) same ∙ (λ i. Some (sym found i))) in
    let turns' : Turns g.C.Chronicle.stands (with_ticket c.draw-ticket.result c.pass.inside.place.me) c.load-served.new.seat.me = subst (λ m. Turns g.C.Chronicle.stands m c.load-served.new.seat.me) same turns in
    let tables : c.exchange.new.seat.table_id ≡ c.pass.inside.place.table_id = search rules in
    let slot : c.exchange.result ≡ Some turns'.value = slot-value _ _ _ _ (sym c.exchange.ensures.2 ∙ ap (λ m. m.1) turns'.is) in
    inside-enters g.C.Chronicle.stands c.unwrap.result c.pass.inside.place.me c.load-served.new.seat.me c.exchange.new.seat.me c.draw-ticket.result turns' c.pass.inside.place.table_id c.exchange.new.seat.table_id
    c.args.pass.now c.pass.view_is tables (ap (λ m. m.0) c.exchange.ensures.3) (some-is _ _ (sym slot ∙ c.unwrap.ensures))
