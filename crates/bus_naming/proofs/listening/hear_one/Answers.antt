use Rattle.std.proofs.Common.{Err, subst, sym}
use Rattle.bus_framing.specs.Looks.{said_of}
use Rattle.bus_start.specs.Starts.{rows_of}
use Rattle.bus_naming.specs.declared.refused.NamingRefused.{NamingRefused}
use Rattle.bus_naming.specs.Naming.{HearsOne}
use Rattle.bus_naming.proofs.NamingLemmas.{hears-refused}
use Rattle.bus_naming.proofs.listening.hear_one.Goals as goal

-- it is heard
pub returns-in-Ok-hear : goal.returns-in-Ok-hear
returns-in-Ok-hear c = record { view = c.in-Ok.view; is = c.in-Ok.ensures; heard = c.in-Ok-hear.ensures.heard }

-- it refuses
pub returns-in-Err-hear : goal.returns-in-Err-hear
returns-in-Err-hear c =
    subst (λ (w : NamingRefused). HearsOne (said_of c.args.heard) (rows_of c.args.starting.now) (rows_of c.hear.new.starting) (Err w)) (sym c.end_of.ensures)
    (hears-refused (said_of c.args.heard) c.in-Ok.view (rows_of c.args.starting.now) (rows_of c.hear.new.starting) c.in-Err-hear.refused c.in-Ok.ensures c.in-Err-hear.ensures.refused)
