use Rattle.std.proofs.Common.{subst, sym, ◌∙◌}
use Rattle.bus_framing.specs.Looks.{said_of}
use Rattle.bus_start.specs.Starts.{rows_of}
use Rattle.bus_naming.specs.declared.refused.NamingRefused.{NamingRefused}
use Rattle.bus_naming.specs.Naming.{EndsFor}
use Rattle.bus_naming.proofs.NamingLemmas.{all-broken, all-refused, all-started, all-waits, heard-next}
use Rattle.bus_naming.proofs.listening.hear_all.Goals as goal

pub loop-init : goal.loop-init
loop-init g c = λ bytes so. so

-- the link has started
pub returns-then-has_started : goal.returns-then-has_started
returns-then-has_started g c =
    λ bytes so. all-started bytes c.loop.framer (rows_of c.loop.starting) (c.loop.invariant bytes so) (sym c.if-has_started.true ∙ c.has_started.ensures)

-- no further message is complete
pub returns-in-Ok-None : goal.returns-in-Ok-None
returns-in-Ok-None g c =
    let waits = rw c.in-Ok-None.field-0-is at c.in-Ok-None.ensures.waits in
    λ bytes so. all-waits bytes c.loop.framer c.next-in-loop.new.self (rows_of c.loop.starting) (c.loop.invariant bytes so) waits

-- a rule is broken, or there was no memory
pub returns-in-Err : goal.returns-in-Err
returns-in-Err g c =
    λ bytes so. subst (λ (w : NamingRefused). EndsFor bytes w) (sym c.end_for.ensures)
    (all-broken bytes c.loop.framer c.next-in-loop.new.self (rows_of c.loop.starting) c.in-Err.refused (c.loop.invariant bytes so) (sym c.has_started.ensures ∙ c.if-has_started.false)
    c.in-Err.ensures.refused)

-- the message ends it
pub returns-in-Err-hear_one : goal.returns-in-Err-hear_one
returns-in-Err-hear_one g c =
    let follows = rw c.in-Ok-Some.field-0-is at c.in-Ok-Some.ensures.heard in
    λ bytes so. all-refused bytes c.loop.framer c.next-in-loop.new.self (said_of c.in-Ok-Some.heard) (rows_of c.loop.starting) (rows_of c.hear_one.new.starting) c.in-Err-hear_one.refused
    (c.loop.invariant bytes so) (sym c.has_started.ensures ∙ c.if-has_started.false) follows c.in-Err-hear_one.ensures

-- one message more
pub loop-preserved : goal.loop-preserved
loop-preserved g c =
    let follows = rw c.in-Ok-Some.field-0-is at c.in-Ok-Some.ensures.heard in
    λ bytes so. heard-next bytes c.loop.framer c.next-in-loop.new.self (said_of c.in-Ok-Some.heard) (rows_of c.loop.starting) (rows_of c.hear_one.new.starting) (c.loop.invariant bytes so)
    (sym c.has_started.ensures ∙ c.if-has_started.false) follows c.in_default.ensures
