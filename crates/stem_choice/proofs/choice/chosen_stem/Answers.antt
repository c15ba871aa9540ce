use Rattle.std.proofs.Common.{◌≡◌, ◌+◌, true, false, sym, ◌∙◌, ap, subst, arith}
use Rattle.kr_base.specs.Stem.{IsStem}
use Rattle.stem_choice.specs.Choice.{base_of, numbered}
use Rattle.stem_choice.specs.UsedStems.{is_used}
use Rattle.stem_choice.proofs.CandidateLemmas.{IsStem-numbered}
use Rattle.stem_choice.proofs.ChoiceLemmas.{as_many_used, found_free, is_chosen, used_too}
use Rattle.stem_choice.proofs.choice.chosen_stem.Goals as goal

-- one more candidate is used, so there are as many used stems
pub loop-count-preserved : goal.loop-count-preserved
loop-count-preserved c =
    let used = c.args.used.now.stems in
    let count = c.loop-count.count in
    let is : is_used c.loop-count.text.items used ≡ true =
    subst (λ l. is_used l used ≡ true) c.as_slice-in-loop-count.ensures.value (sym c.has_bytes.ensures ∙ c.loop-count-test.true) in
    let few = as_many_used c.args.label.now used c.loop-count.text.items count c.len-most.ensures.fits c.loop-count.invariant is in
    record {
      from_one = omega arith;
      within = omega (arith, few);
      spelled = c.in_ok-number.ensures ∙ ap (λ b. numbered b (count + 1)) (c.as_slice-in-loop-count-2.ensures.value ∙ c.in_ok-base.ensures ∙ ap base_of c.as_bytes.ensures.value);
      before = used_too c.args.label.now used c.loop-count.text.items count c.loop-count.invariant is;
    }

pub loop-count-smaller : goal.loop-count-smaller
loop-count-smaller c =
    let used = c.args.used.now.stems in
    let is : is_used c.loop-count.text.items used ≡ true =
    subst (λ l. is_used l used ≡ true) c.as_slice-in-loop-count.ensures.value (sym c.has_bytes.ensures ∙ c.loop-count-test.true) in
    let few = as_many_used c.args.label.now used c.loop-count.text.items c.loop-count.count c.len-most.ensures.fits c.loop-count.invariant is in
    omega (arith, few)

-- each candidate is a stem
pub stem_of-requires : goal.stem_of-requires
stem_of-requires c =
    subst (λ l. IsStem l) (sym c.loop-count.invariant.spelled) (IsStem-numbered c.args.label.now c.loop-count.count)

pub returns-clause-value : goal.returns-clause-value
returns-clause-value c =
    let used = c.args.used.now.stems in
    let free : is_used c.loop-count.text.items used ≡ false =
    subst (λ l. is_used l used ≡ false) c.as_slice-in-loop-count.ensures.value (sym c.has_bytes.ensures ∙ c.loop-count-test.false) in
    let chosen = found_free c.args.label.now used c.loop-count.text.items c.loop-count.count c.loop-count.invariant free in
    c.stem_of.ensures ∙ is_chosen c.args.label.now c.loop-count.text.items used c.len-most.ensures.fits chosen
