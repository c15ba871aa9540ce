use Rattle.std.proofs.Common.{ap, ◌∙◌}
use Rattle.std.specs.declared.alloc.AllocError.{AllocError}
use Rattle.attribute_index.specs.Around.{with_own}
use Rattle.attribute_index.specs.Branches.{pairs_of}
use Rattle.attribute_index.proofs.KeptLemmas.{put-new}
use Rattle.attribute_index.proofs.pairs.put_new.Goals as goal

pub returns-in-Ok : goal.returns-in-Ok
returns-in-Ok c =
    let own = c.in-Ok.own.value in
    let put = c.with_branch-pairs.ensures.pairs ∙ ap (λ o. with_own own (pairs_of o)) c.take.ensures.value in
    let kept = put-new {E = AllocError} c.args.name.now c.args.text.now c.args.id.0 _ _ own c.requires.sorted c.requires.absent c.in-Ok.ensures.name c.in-Ok.ensures.text c.in-Ok.ensures.ids put in
    record { sorted = kept.sorted; put = kept.put; unchanged = tt; lean = kept.lean }
