use Rattle.std.proofs.Common.{◌≡◌, ◌-◌, [], ◌∷◌, ◌++◌, take, ap, sym, ◌∙◌, arith, refl}
use Rattle.std.proofs.lemmas.List.{length-set, take_all, take_more_set}
use Rattle.aes_cbc.specs.Aes.{words_through}
use Rattle.aes_cbc.proofs.ScheduleLemmas.{words_through_more}
use Rattle.aes_cbc.proofs.schedule.key_schedule.Goals as goal

pub loop-i-init : goal.loop-i-init
unfolding words_through
loop-i-init c = (
  refl,
  λ i. c.from_be_bytes.ensures i ∷ c.from_be_bytes-2.ensures i ∷ c.from_be_bytes-3.ensures i ∷ c.from_be_bytes-4.ensures i ∷ [],
)

pub loop-i-preserved : goal.loop-i-preserved
loop-i-preserved c =
    let words = c.loop-i.words in
    let i = c.loop-i.i in
    let next = c.next_word-next in (
      length-set words i next.result ∙ c.loop-i.invariant.0,
      take_more_set words i next.result (omega arith)
          ∙ ap (λ x. take i words ++ x ∷ []) next.ensures
          ∙ words_through_more c.args.key words i c.loop-i.auto.i c.loop-i.invariant.1,
    )

pub returns : goal.returns
returns c =
    let words = c.loop-i.words in
    let done : c.loop-i.i ≡ 44 = omega (arith, c.loop-i.auto.i-end (omega arith)) in
    sym (take_all 44 words (omega arith)) ∙ ap (λ k. take k words) (sym done)
    ∙ c.loop-i.invariant.1 ∙ ap (λ k. words_through c.args.key (k - 4)) done
