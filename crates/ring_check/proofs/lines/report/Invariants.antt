use Rattle.std.proofs.Common.{◌≡◌, take}
use Rattle.ring_check.specs.Lines.{report_of}
use Rattle.ring_check.proofs.lines.report.Given as goal

-- the lines so far
abbrev pub invariant-loop-verdict : goal.invariant-loop-verdict
invariant-loop-verdict l = l.text.items ≡ report_of (take l.verdict-index l.verdicts)
