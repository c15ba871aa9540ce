use Rattle.std.proofs.Common.{sym, ◌∙◌}
use Rattle.shared_service.proofs.Rest.{work_own}
use Rattle.shared_service.proofs.sleepers.own_place.Goals as goal

pub returns-in-Some : goal.returns-in-Some
returns-in-Some g c = work_own c.args.service.now.history.state c.args.conns.now c.args.conn c.in-Some.k (sym c.place_of.ensures ∙ c.in-Some.is) (sym c.has_work.ensures ∙ c.if-has_work.true)
