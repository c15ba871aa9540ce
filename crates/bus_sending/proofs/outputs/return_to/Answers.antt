-- The header is the return's.
use Rattle.std.proofs.Common.{◌≡◌, ℕ, List, IfOk, subst}
use Rattle.dbus_sending.specs.HeaderViews.{seen}
use Rattle.secret_calls.specs.declared.out.Out.TheVariants as outs
use Rattle.bus_sending.proofs.SpellingLemmas.{to_one}
use Rattle.bus_sending.proofs.outputs.return_to.Goals as goal

pub returns : goal.returns
returns c =
    subst (λ (text : List ℕ). IfOk c.message.result (λ bytes. bytes.items ≡ text))
    (to_one c.args.destination.now (outs.Return c.args.to c.args.body.now) c.args.serial (seen c.return_header-header.result) c.return_header-header.ensures) c.message.ensures
