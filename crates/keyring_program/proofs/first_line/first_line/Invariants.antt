use Rattle.std.proofs.Common.{length, ◌-◌}
use Rattle.keyring_program.proofs.LineLemmas.{HasRead}
use Rattle.keyring_program.proofs.first_line.first_line.Given as goal

-- the bytes read so far
abbrev pub invariant-loop-input : goal.invariant-loop-input
invariant-loop-input g l =
    let source = g.I.Source in
    HasRead (source.left l.fn.input) (source.left l.input) (source.faults l.fn.input) (source.faults l.input)
    (source.is_steady l.fn.input) (source.is_steady l.input) (source.is_closed l.input) l.line.items

-- each turn reads one byte
abbrev pub decreases-loop-input : goal.decreases-loop-input
decreases-loop-input g l = 4096 - length l.line.items
