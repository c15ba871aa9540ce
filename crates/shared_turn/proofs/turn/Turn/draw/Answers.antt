use Rattle.std.proofs.Common.{rules, ◌≡◌, sym, subst}
use Rattle.shared_turn.specs.Seats.{IsWithoutTicket}
use Rattle.shared_turn.proofs.Keeps.{draws}
use Rattle.shared_turn.proofs.turn.Turn.draw.Goals as goal

pub compare_exchange-found-requires : goal.compare_exchange-found-requires
compare_exchange-found-requires g c =
    let same : c.loop.place.me ≡ c.args.place.now.me = search rules in
    (search rules, search rules, draws g.C.Chronicle.stands _ _ _ _ c.loop.place.me _ (subst (λ m. IsWithoutTicket m.0) (sym same) c.requires.known) (search rules))
