use Rattle.std.proofs.Common.{rules, ◌≡◌, ◌∷◌, [], Some, refl, length, sym, subst}
use Rattle.shared_turn.specs.Rule.{first_known}
use Rattle.shared_turn.specs.Seats.{IsReady}
use Rattle.shared_turn.proofs.Histories.{all-are-places}
use Rattle.shared_turn.proofs.Keeps.{opens}
use Rattle.shared_turn.proofs.turn.Turn.open.Goals as goal

pub new-requires : goal.new-requires
new-requires g c =
    let items : c.push.new.self.items ≡ Some c.args.value ∷ [] = search rules in
    rw (c.of-key.ensures, items) (opens g.C.Chronicle.stands (g.C.Chronicle.start c.args.value) (g.C.Chronicle.before c.args.value) c.args.value (g.C.Chronicle.events c.args.value) c.args.count c.requires.count c.requires.stands)

-- the first seat has seen the stored events, and each is its own
pub invariant_of-result : goal.invariant_of-result
invariant_of-result g c =
    let me : c.in-Ok.place.me ≡ (first_known (g.C.Chronicle.start c.args.value) (g.C.Chronicle.before c.args.value) (g.C.Chronicle.events c.args.value), []) = search rules in
    subst (λ m. IsReady m) (sym me) record { start = (g.C.Chronicle.start c.args.value, refl); met = refl; places = all-are-places (length (g.C.Chronicle.events c.args.value)); turn = (refl, refl) }
