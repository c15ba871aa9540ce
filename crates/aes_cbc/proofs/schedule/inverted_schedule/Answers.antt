use Rattle.std.proofs.Common.{◌≡◌, ap, ◌∙◌, arith, inl, inr, w32}
use Rattle.std.specs.Int.{to_be_bytes}
use Rattle.std.proofs.lemmas.Bool.{cases_lt}
use Rattle.std.proofs.lemmas.List.{get_or-set_other, get_or-set_same, length-set}
use Rattle.aes_cbc.specs.Aes.{inverse_mixing, mixed_column}
use Rattle.aes_cbc.proofs.schedule.inverted_schedule.Goals as goal

pub loop-i-preserved : goal.loop-i-preserved
loop-i-preserved c =
    let words = c.loop-i.words in
    let i = c.loop-i.i in
    let x = c.unmixed_word-next.result in (
      length-set words i x ∙ c.loop-i.invariant.0,
      λ k lt. get_or-set_other words i k x 0 (omega arith) ∙ c.loop-i.invariant.1 k lt,
      λ k le lt. elim (cases_lt k i) [
        | inl below ↦ ap (to_be_bytes w32) (get_or-set_other words i k x 0 (omega arith)) ∙ c.loop-i.invariant.2 k le below
        | inr above ↦
            let here : i ≡ k = omega arith in
            rw (← here) (ap (to_be_bytes w32) (get_or-set_same words i x 0 (omega arith)) ∙ c.unmixed_word-next.ensures
            ∙ ap (λ y. mixed_column inverse_mixing (to_be_bytes w32 y)) (c.loop-i.invariant.3 i (omega arith)))
      ],
      λ k le. get_or-set_other words i k x 0 (omega arith) ∙ c.loop-i.invariant.3 k (omega arith),
    )

pub returns : goal.returns
returns c =
    let done : c.loop-i.i ≡ 40 = omega (arith, c.loop-i.auto.i-end (omega arith)) in
    record {
      first = c.loop-i.invariant.1;
      mixed = λ k low high. c.loop-i.invariant.2 k low (omega arith);
      last = λ k le. c.loop-i.invariant.3 k (omega arith);
    }
