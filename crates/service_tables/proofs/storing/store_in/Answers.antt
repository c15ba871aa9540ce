use Rattle.std.proofs.Common.{rules}
use Rattle.service_tables.proofs.SlotLemmas.{moment-unsure, no-rise}
use Rattle.service_tables.proofs.storing.store_in.Goals as goal

-- the file has the image from before or the new one, and a call of the device failed
pub returns-in-Err-FaultUnsure-clause-slot : goal.returns-in-Err-FaultUnsure-clause-slot
returns-in-Err-FaultUnsure-clause-slot g c =
    let ends = c.in-Err-FaultUnsure.ensures in
    let old = c.args.collection.now in
    let new = c.change.new.self in
    record {
      any_moment = λ honest. moment-unsure c.args.change c.args.now old new g.S.Slot.moment g.S.Slot.left_since c.requires.open (ends.unsure (search rules)) (ends.any_moment honest);
      crash = ends.crash;
      honest = ends.kept.honest;
      steady = ends.kept.steady;
      cause = λ fault. ends.kept.cause (search rules);
      never = λ steady fault. no-rise _ _ _ _ ends.kept.steady steady (g.met.S.Slot.steady_below old.slot steady) (ends.kept.cause (search rules));
      one = λ honest same. cc;
    }
