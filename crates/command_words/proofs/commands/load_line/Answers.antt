use Rattle.std.proofs.Common.{arith}
use Rattle.command_words.proofs.CommandLemmas.{no_amount, amount_off, no_start}
use Rattle.command_words.proofs.commands.load_line.Goals as goal
use Rattle.command_words.proofs.commands.load_line.Goals.{then-items-eq0-via-then-items-eq0, then-items-eq0-via-else-items-eq0+then-items-gt-MOST_ITEMS}

pub returns-in_default : goal.returns-in_default
returns-in_default c = no_amount c.args.amount.now c.args.start.now c.in_default.ensures

pub returns-then-items-eq0 : goal.returns-then-items-eq0
returns-then-items-eq0 c =
    amount_off c.args.amount.now c.args.start.now c.in-Some.items c.in-Some.ensures (λ some fits.
    elim c.then-items-eq0.branch [
      | then-items-eq0-via-then-items-eq0 w ↦ omega (arith, some, w.if-items-eq0.true)
      | then-items-eq0-via-else-items-eq0+then-items-gt-MOST_ITEMS w ↦ omega (arith, fits, w.if-items-gt-MOST_ITEMS.true)
    ])

pub returns-in_default-long_number : goal.returns-in_default-long_number
returns-in_default-long_number c = no_start c.args.amount.now c.args.start.now c.in_default-long_number.ensures
