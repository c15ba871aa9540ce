-- The header is the signal's.
use Rattle.std.proofs.Common.{◌≡◌, ℕ, List, Some, IfOk, subst, ap, ◌∙◌}
use Rattle.dbus_sending.specs.HeaderViews.{seen}
use Rattle.dbus_sending.specs.Sent.{SentHeader, bare_header}
use Rattle.secret_calls.specs.declared.out.Out.TheVariants as outs
use Rattle.secret_calls.specs.Outs.{interface_of, signal_name}
use Rattle.bus_sending.proofs.SpellingLemmas.{to_one}
use Rattle.bus_sending.proofs.outputs.signal_from.Goals as goal

-- the header with this object, interface and name
abbrev with : List ℕ → ℕ → List ℕ → List ℕ → List ℕ → SentHeader
with destination serial path interface name = record (bare_header 4 1 serial) { path = Some path; interface = Some interface; member = Some name; destination = Some destination }

pub returns : goal.returns
returns c =
    let destination = c.args.destination.now in
    let is : seen c.signal_header-header.result ≡ with destination c.args.serial c.args.path.now (interface_of c.args.signal.now) (signal_name c.args.signal.now) =
    c.signal_header-header.ensures
    ∙ ap (λ (text : List ℕ). with destination c.args.serial c.args.path.now text c.name.result.now) c.interface.ensures
    ∙ ap (λ (text : List ℕ). with destination c.args.serial c.args.path.now (interface_of c.args.signal.now) text) c.name.ensures in
    let also = is ∙ ap (λ (text : List ℕ). with destination c.args.serial text (interface_of c.args.signal.now) (signal_name c.args.signal.now)) c.requires in
    subst (λ (text : List ℕ). IfOk c.message.result (λ bytes. bytes.items ≡ text))
    (to_one destination (outs.Signal c.args.signal.now) c.args.serial (seen c.signal_header-header.result) also) c.message.ensures
