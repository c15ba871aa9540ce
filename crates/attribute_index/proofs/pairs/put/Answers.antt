use Rattle.std.proofs.Common.{ap, subst, sym, ◌∙◌}
use Rattle.std.proofs.lemmas.Result.{on_ok_weaker, on_err_weaker}
use Rattle.attribute_index.specs.Index.{IsLean, ids_in_names}
use Rattle.attribute_index.proofs.KeptLemmas.{put-there}
use Rattle.attribute_index.proofs.pairs.put.Goals as goal

pub returns-in-Some : goal.returns-in-Some
returns-in-Some c =
    let there = rw c.in-Some.is at c.put_there.ensures in
    let kept = put-there c.in-Some.answer c.args.name.now c.args.text.now c.args.id.0 _ _ c.requires there in
    record { sorted = kept.sorted; put = kept.put; unchanged = kept.unchanged; lean = kept.lean }

pub returns-in-None : goal.returns-in-None
returns-in-None c =
    let there = rw c.in-None.is at c.put_there.ensures in
    record {
      sorted = c.put_new.ensures.sorted;
      put = on_ok_weaker c.put_new.result (λ put n t. rw there.0 at (put n t)) c.put_new.ensures.put;
      unchanged = on_err_weaker c.put_new.result (λ same n t. ap (λ l. ids_in_names l n t) (same ∙ there.0)) c.put_new.ensures.unchanged;
      lean = λ lean. c.put_new.ensures.lean (subst IsLean (sym there.0) lean);
    }
