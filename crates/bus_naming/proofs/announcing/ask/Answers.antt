use Rattle.std.proofs.Common.{◌≡◌, ℕ, List, [], ◌++◌, Ok, ap, subst, refl, ◌∙◌}
use Rattle.kr_outside.specs.declared.source.Failed.{Failed}
use Rattle.kr_dialer.specs.Carrying.{SendsAll, link_of}
use Rattle.kr_dialer.proofs.CarryingLemmas.{Carried-none}
use Rattle.bus_sending.specs.Texts.{Written, written_out}
use Rattle.bus_naming.proofs.announcing.ask.Goals as goal

-- there was no memory for them
pub returns-in-Err : goal.returns-in-Err
returns-in-Err g c = (Carried-none _, refl)

-- they were written
pub returns-in-Ok : goal.returns-in-Ok
returns-in-Ok g c =
    let it = g.D.Dialer in
    let old = link_of it.dialled it.left it.written it.faults it.is_steady c.args.link.now in
    let new = link_of it.dialled it.left it.written it.faults it.is_steady c.send_all.new.dialer in
    let sent = subst (λ (l : List ℕ). SendsAll {E = Failed} l old new (Ok tt)) (c.as_slice.ensures ∙ ap (λ (t : Written). t.bytes) c.in_default.ensures) c.in-Ok.ensures in
    (sent.0, sent.1, c.clear.ensures ∙ ap written_out c.in_default.ensures)

-- the link failed after a prefix of them
pub returns-in-Err-send_all : goal.returns-in-Err-send_all
returns-in-Err-send_all g c =
    let it = g.D.Dialer in
    let sent = c.in-Err-send_all.ensures in
    (sent.0, (sent.1, subst (λ (l : List ℕ). l ≡ sent.0 ++ sent.1) (c.as_slice.ensures ∙ ap (λ (t : Written). t.bytes) c.in_default.ensures) sent.2), sent.3, sent.4)
