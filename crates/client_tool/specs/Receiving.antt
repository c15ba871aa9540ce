-- One reading from the dialer.
use Rattle.std.specs.Prelude.{◌≡◌, ℕ, ◌++◌, List, [], Result, Ok, Err}
use Rattle.std.specs.Io.KnownBytes.{IsAtEnd}
use Rattle.kr_outside.specs.Faults.{Rose}
use Rattle.dbus_framing.specs.Framers.{Framing}
use Rattle.kr_dialer.specs.Carrying.{LinkState, Carried, IsStill}
use Rattle.client_tool.specs.declared.status.BadReply.TheVariants as bad
use Rattle.client_tool.specs.declared.status.Stop.{Stop}
use Rattle.client_tool.specs.declared.status.Stop.TheVariants as stop

-- bytes were read and fed to a framer; or the dialer failed, or ended, or no memory was left
abbrev pub ReceivesMore : Framing → Framing → LinkState → LinkState → Result Unit Stop → Type 0
ReceivesMore has left old new (Ok done) = (more : List ℕ) × Carried old new more [] × (left.rest ≡ has.rest ++ more) × (left.most ≡ has.most) × IsStill old new
ReceivesMore has left old new (Err stop.LinkFault) = Carried old new [] [] × Rose old.faults new.faults
ReceivesMore has left old new (Err (stop.BadReply bad.Ended)) = Carried old new [] [] × IsAtEnd new.left × IsStill old new
ReceivesMore has left old new (Err stop.Memory) = (more : List ℕ) × Carried old new more [] × IsStill old new
ReceivesMore has left old new (Err _) = ⊥
