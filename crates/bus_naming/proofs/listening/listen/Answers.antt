use Rattle.std.proofs.Common.{◌++◌, Err, ap, subst, sym, ◌∙◌}
use Rattle.bus_framing.specs.Links.{Linking, fed_with}
use Rattle.bus_start.specs.Starts.{rows_of}
use Rattle.kr_dialer.specs.Carrying.{link_of}
use Rattle.bus_naming.specs.declared.refused.NamingRefused.{NamingRefused}
use Rattle.bus_naming.specs.Naming.{Listens}
use Rattle.bus_naming.proofs.NamingLemmas.{no-room, so-dialled, so-early, so-ends, so-more, so-none, so-started, so-unfed}
use Rattle.bus_naming.proofs.listening.listen.Goals as goal

-- there was no memory for what was read before
pub returns-in-Err : goal.returns-in-Err
returns-in-Err g c = let it = g.D.Dialer in no-room c.args.rest.now (link_of it.dialled it.left it.written it.faults it.is_steady c.args.link.now)

pub loop-init : goal.loop-init
loop-init g c =
    let it = g.D.Dialer in
    so-none c.args.rest.now (link_of it.dialled it.left it.written it.faults it.is_steady c.args.link.now) c.feed.new.self (rows_of c.new-starting.result)
    (c.in_default.ensures.fed ∙ ap (λ (l : Linking). fed_with c.args.rest.now l) c.new-framer.ensures) c.new-starting.ensures

pub feed_more-requires-clause-has_dialled : goal.feed_more-requires-clause-has_dialled
feed_more-requires-clause-has_dialled g c =
    let it = g.D.Dialer in
    so-dialled c.args.rest.now (link_of it.dialled it.left it.written it.faults it.is_steady c.args.link.now) (link_of it.dialled it.left it.written it.faults it.is_steady c.loop.link)
    c.loop.framer (rows_of c.loop.starting) c.loop.invariant c.requires.has_dialled

-- a message ended it
pub returns-in-Err-hear_all : goal.returns-in-Err-hear_all
returns-in-Err-hear_all g c =
    let it = g.D.Dialer in
    let so = c.loop.invariant in
    so-ends c.args.rest.now (link_of it.dialled it.left it.written it.faults it.is_steady c.args.link.now) (link_of it.dialled it.left it.written it.faults it.is_steady c.loop.link)
    c.loop.framer (rows_of c.loop.starting) c.in-Err-hear_all.refused so (c.in-Err-hear_all.ensures (c.args.rest.now ++ so.read) so.heard)

-- the link has started
pub returns-then-has_started : goal.returns-then-has_started
returns-then-has_started g c =
    let it = g.D.Dialer in
    let so = c.loop.invariant in
    so-started c.args.rest.now (link_of it.dialled it.left it.written it.faults it.is_steady c.args.link.now) (link_of it.dialled it.left it.written it.faults it.is_steady c.loop.link)
    c.loop.framer (rows_of c.loop.starting) (rows_of c.hear_all.new.starting) _ so (c.in_default-hear_all.ensures (c.args.rest.now ++ so.read) so.heard)
    (sym c.has_started.ensures ∙ c.if-has_started.true) c.into_kept.ensures

-- no more was fed
pub returns-in-Err-feed_more : goal.returns-in-Err-feed_more
returns-in-Err-feed_more g c =
    let it = g.D.Dialer in
    let old = link_of it.dialled it.left it.written it.faults it.is_steady c.args.link.now in
    let mid = link_of it.dialled it.left it.written it.faults it.is_steady c.loop.link in
    let new = link_of it.dialled it.left it.written it.faults it.is_steady c.feed_more.new.link in
    let so = c.loop.invariant in
    subst (λ (w : NamingRefused). Listens c.args.rest.now old new (Err w)) (sym c.fault_of.ensures)
    (so-unfed c.args.rest.now old mid new c.loop.framer c.hear_all.new.framer c.feed_more.new.framer (rows_of c.loop.starting) (rows_of c.hear_all.new.starting) c.in-Err-feed_more.refused so
    (c.in_default-hear_all.ensures (c.args.rest.now ++ so.read) so.heard) (sym c.has_started.ensures ∙ c.if-has_started.false) c.in-Err-feed_more.ensures)

-- the input has ended
pub returns-then-not-has_more : goal.returns-then-not-has_more
returns-then-not-has_more g c =
    let it = g.D.Dialer in
    let old = link_of it.dialled it.left it.written it.faults it.is_steady c.args.link.now in
    let mid = link_of it.dialled it.left it.written it.faults it.is_steady c.loop.link in
    let new = link_of it.dialled it.left it.written it.faults it.is_steady c.feed_more.new.link in
    let so = c.loop.invariant in
    so-early c.args.rest.now old mid new c.loop.framer c.hear_all.new.framer c.feed_more.new.framer (rows_of c.loop.starting) (rows_of c.hear_all.new.starting) c.in-Ok.has_more so
    (c.in_default-hear_all.ensures (c.args.rest.now ++ so.read) so.heard) (sym c.has_started.ensures ∙ c.if-has_started.false) c.if-not-has_more.true c.in-Ok.ensures

-- more was fed
pub loop-preserved : goal.loop-preserved
loop-preserved g c =
    let it = g.D.Dialer in
    let old = link_of it.dialled it.left it.written it.faults it.is_steady c.args.link.now in
    let mid = link_of it.dialled it.left it.written it.faults it.is_steady c.loop.link in
    let new = link_of it.dialled it.left it.written it.faults it.is_steady c.feed_more.new.link in
    let so = c.loop.invariant in
    so-more c.args.rest.now old mid new c.loop.framer c.hear_all.new.framer c.feed_more.new.framer (rows_of c.loop.starting) (rows_of c.hear_all.new.starting) c.in-Ok.has_more so
    (c.in_default-hear_all.ensures (c.args.rest.now ++ so.read) so.heard) c.if-not-has_more.false c.in-Ok.ensures
