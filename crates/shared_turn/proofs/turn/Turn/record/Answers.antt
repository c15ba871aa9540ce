use Rattle.std.proofs.Common.{rules, ◌≡◌, ◌<◌, ◌+◌, ◌∷◌, ◌++◌, [], true, length, Some, sym, subst, ap, ◌∙◌}
use Rattle.atomic_table.specs.Table.{rest}
use Rattle.shared_turn.specs.Passes.{Stands}
use Rattle.shared_turn.proofs.Seating.{holding}
use Rattle.shared_turn.proofs.Keeps.{counts}
use Rattle.shared_turn.proofs.Readies.{recorded-back, recorded-ready}
use Rattle.shared_turn.proofs.turn.Turn.record.Goals as goal

pub fetch_add-requires : goal.fetch_add-requires
fetch_add-requires g c =
    let has : c.pass.inside.place.me.0.has_turn ≡ true = search rules in
    let slot = holding c.pass.inside.place.me c.pass.invariant has in
    let same : c.exchange.new.seat.me ≡ (c.pass.inside.place.me.0, (0, Some c.args.value) ∷ rest c.pass.inside.place.me.1) = c.exchange.ensures.3 in (
      search rules,
      search rules,
      counts g.C.Chronicle.stands _ _ g.C.Chronicle.newest _ _ c.exchange.new.seat.me c.args.value c.requires.recorded.0 (c.pass.invariant.start.0, ap (λ m. m.0.start) same ∙ c.pass.invariant.start.1)
          (ap (λ m. m.0.has_turn) same ∙ has) (ap (λ m. m.1) same ∙ ap (λ slots. (0, Some c.args.value) ∷ rest slots) slot.2) c.requires.recorded.1.newest_is
          (subst (λ m. m.0.before + length m.0.seen < 18446744073709551615) (sym same) (subst (λ v. v.before + length v.seen < 18446744073709551615) (sym c.pass.view_is) c.requires.few)),
    )

pub hand-requires-clause-ready : goal.hand-requires-clause-ready
hand-requires-clause-ready g c =
    let has : c.pass.inside.place.me.0.has_turn ≡ true = search rules in
    let slot = holding c.pass.inside.place.me c.pass.invariant has in
    let same : c.exchange.new.seat.me ≡ (c.pass.inside.place.me.0, (0, Some c.args.value) ∷ rest c.pass.inside.place.me.1) = c.exchange.ensures.3 in
    let full = ap (λ m. m.1) same ∙ ap (λ slots. (0, Some c.args.value) ∷ rest slots) slot.2 in (
      c.args.value,
      recorded-back g.C.Chronicle.stands g.C.Chronicle.newest c.args.value c.requires.recorded.0 c.pass.inside.place.me c.exchange.new.seat.me _ c.pass.invariant has same (c.fetch_add.ensures.2 c.args.value full)
          c.requires.recorded.1.newest_is (subst (λ v. Stands g.C.Chronicle.stands c.args.value v (v.seen ++ c.requires.recorded.0 ∷ [])) (sym c.pass.view_is) c.requires.recorded.1.stands),
    )

pub invariant_of-pass : goal.invariant_of-pass
invariant_of-pass g c =
    let has : c.pass.inside.place.me.0.has_turn ≡ true = search rules in
    let slot = holding c.pass.inside.place.me c.pass.invariant has in
    let same : c.exchange.new.seat.me ≡ (c.pass.inside.place.me.0, (0, Some c.args.value) ∷ rest c.pass.inside.place.me.1) = c.exchange.ensures.3 in
    let full = ap (λ m. m.1) same ∙ ap (λ slots. (0, Some c.args.value) ∷ rest slots) slot.2 in
    recorded-ready g.C.Chronicle.stands g.C.Chronicle.newest c.args.value c.requires.recorded.0 c.pass.inside.place.me c.exchange.new.seat.me _ _ c.pass.invariant same
    (c.fetch_add.ensures.2 c.args.value full) c.requires.recorded.1.newest_is c.hand.ensures.handed
