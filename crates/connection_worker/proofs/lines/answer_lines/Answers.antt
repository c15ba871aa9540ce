use Rattle.std.proofs.Common.{refl, sym, ◌∙◌, arith, length-drop}
use Rattle.connection_worker.proofs.LineLemmas.{answers-more, answers-failed}
use Rattle.connection_worker.proofs.HandshakeLemmas.{rose-later}
use Rattle.connection_worker.proofs.StreamLemmas.{Gave-later}
use Rattle.connection_worker.proofs.lines.answer_lines.Goals as goal

-- the answer to a line wasn't written completely
pub returns-in-Err : goal.returns-in-Err
returns-in-Err g c =
    let wrote = c.in-Err.ensures in
    let line = rw c.split_at.ensures.back at c.in-Answered.ensures in (
      rose-later _ _ _ (Gave-later _ _ _ c.lines.invariant.1.gave) (wrote.cause.failed refl),
      answers-failed _ _ _ _ _ _ _ c.in-Answered.answer c.lines.invariant.1 line.2
          (record { appended = rw c.bytes.ensures at wrote.front; later = wrote.cause.later; steady = wrote.steady; closed = wrote.is_open ∙ sym (c.lines.invariant.1.gave.closed ∙ c.requires.output_open) }),
    )

-- one more line was answered
pub lines-preserved : goal.lines-preserved
lines-preserved g c =
    let wrote = c.in_default.ensures in
    let line = rw c.split_at.ensures.back at c.in-Answered.ensures in (
      omega (arith, line.1, length-drop c.lines.taken c.args.bytes.now, c.lines.invariant.0),
      answers-more _ _ _ c.lines.taken c.in-Answered.size _ _ _ _ c.in-Answered.answer c.lines.invariant.1 line.2
          (record { appended = rw c.bytes.ensures at wrote.whole; still = wrote.still; steady = wrote.steady; closed = wrote.is_open ∙ sym (c.lines.invariant.1.gave.closed ∙ c.requires.output_open) }),
    )
