use Rattle.std.proofs.Common.{◌≡◌, Ok, Err, Result, OnOk, OnErr, rules}
use Rattle.ring_check.specs.Verdict.{password_in}
use Rattle.ring_check.proofs.BatchLemmas.{upto_flush, front_flush, keeps_none, on_ok_two, on_err_from}
use Rattle.ring_check.proofs.batches.make_room.Goals as goal

-- the batch was judged
pub returns-clause-up_to : goal.returns-clause-up_to
returns-clause-up_to g c start files up_to =
    on_ok_two c.flush.result _ _ _ _ c.flush.ensures.whole c.flush.ensures.empty c.flush.ensures.damaged
    (λ whole empty damaged. upto_flush (password_in c.args.password) start _ _ c.args.batch.now files up_to c.flush.new.batch whole empty damaged)

pub returns-clause-front : goal.returns-clause-front
returns-clause-front g c start files more up_to =
    on_err_from c.flush.result _ _ c.flush.ensures.front (λ front. front_flush (password_in c.args.password) start _ _ c.args.batch.now files up_to more front)
