use Rattle.std.proofs.Common.{refl, subst}
use Rattle.service_desk.specs.Views.{IsView, state_of, count_of}
use Rattle.shared_service.specs.Passes.{Seen}
use Rattle.shared_service.proofs.pass.Pass.has_seen_a_history.Goals as goal

pub returns : goal.returns
returns g c = subst (λ (s : Seen). IsView (state_of s.view) (count_of s.view) s.view) c.self.view_is record { legal = c.self.invariant.legal; leads = refl; counted = refl; places = c.self.invariant.places }
