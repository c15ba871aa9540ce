use Rattle.std.proofs.Common.{rules, ◌≡◌, false, ap, ◌∙◌}
use Rattle.shared_turn.specs.Rule.{gathered}
use Rattle.shared_turn.proofs.Seating.{idle}
use Rattle.shared_turn.proofs.Keeps.{joins, compares}
use Rattle.shared_turn.proofs.turn.Turn.gather.Goals as goal

pub join_seat-requires : goal.join_seat-requires
join_seat-requires g c =
    let free : c.pass.inside.place.me.0.has_turn ≡ false = search rules in
    let free' : c.other.inside.place.me.0.has_turn ≡ false = search rules in
    let mine = idle c.pass.inside.place.me c.pass.invariant free in
    let theirs = idle c.other.inside.place.me c.other.invariant free' in
    (search rules, search rules, theirs.1, search rules, joins g.C.Chronicle.stands _ _ _ _ _ _ c.pass.invariant.start c.other.invariant.start mine.0 free theirs.0 free')

pub load-requires : goal.load-requires
load-requires g c =
    let free : c.pass.inside.place.me.0.has_turn ≡ false = search rules in
    let mine = idle c.pass.inside.place.me c.pass.invariant free in
    let same : c.join_seat.new.seat.me ≡ (gathered c.pass.inside.place.me.0 c.other.inside.place.me.0, c.pass.inside.place.me.1) = search rules in (
      search rules,
      search rules,
      compares g.C.Chronicle.stands _ _ _ _ c.join_seat.new.seat.me (c.pass.invariant.start.0, ap (λ m. m.0.start) same ∙ c.pass.invariant.start.1) (ap (λ m. m.0.ticket) same ∙ mine.0)
          (ap (λ m. m.0.has_turn) same ∙ free),
    )
