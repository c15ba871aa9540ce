use Rattle.std.proofs.Common.{ℕ, [], take, refl, subst}
use Rattle.kr_dialer.specs.Carrying.{Carried, link_of}
use Rattle.bus_naming.proofs.feeding.feed_more.Goals as goal

-- the input has ended
pub returns-then-count-eq0 : goal.returns-then-count-eq0
returns-then-count-eq0 g c =
    let it = g.D.Dialer in
    let old = link_of it.dialled it.left it.written it.faults it.is_steady c.args.link.now in
    let new = link_of it.dialled it.left it.written it.faults it.is_steady c.read_piece.new.dialer in
    let got = c.in-Ok.ensures in
    (subst (λ (n : ℕ). Carried old new (take n c.read_piece.new.piece) []) c.if-count-eq0.true got.1, refl, got.3 c.if-count-eq0.true, got.2)
