-- The header is the call's.
use Rattle.std.proofs.Common.{◌≡◌, ℕ, List, Some, IfOk, subst, ap, ◌∙◌}
use Rattle.dbus_sending.specs.HeaderViews.{seen}
use Rattle.dbus_sending.specs.Sent.{SentHeader, bare_header}
use Rattle.bus_sending.specs.BusCalls.{bus, bus_path}
use Rattle.bus_sending.proofs.SpellingLemmas.{to_bus}
use Rattle.bus_sending.proofs.calls.call_of_bus.Goals as goal

-- the header with this method
abbrev with : ℕ → List ℕ → SentHeader
with serial member = record (bare_header 1 0 serial) { path = Some bus_path; interface = Some bus; member = Some member; destination = Some bus }

pub returns : goal.returns
returns c =
    subst (λ (text : List ℕ). IfOk c.message.result (λ bytes. bytes.items ≡ text))
    (to_bus c.args.call.now c.args.serial (seen c.header.result) (c.header.ensures ∙ ap (with c.args.serial) c.member.ensures)) c.message.ensures
