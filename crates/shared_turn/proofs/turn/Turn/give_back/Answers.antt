use Rattle.std.proofs.Common.{rules, ◌≡◌, true, sym, subst}
use Rattle.shared_turn.specs.Passes.{Stands}
use Rattle.shared_turn.proofs.Readies.{given-back}
use Rattle.shared_turn.proofs.turn.Turn.give_back.Goals as goal

pub hand-requires-clause-ready : goal.hand-requires-clause-ready
hand-requires-clause-ready g c =
    let has : c.pass.inside.place.me.0.has_turn ≡ true = search rules in (
      c.args.value,
      given-back g.C.Chronicle.stands c.args.value c.pass.inside.place.me _ c.pass.invariant has c.exchange.ensures.3
          (subst (λ v. Stands g.C.Chronicle.stands c.args.value v v.seen) (sym c.pass.view_is) c.requires.stands),
    )
