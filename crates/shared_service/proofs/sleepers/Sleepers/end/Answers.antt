use Rattle.std.proofs.Common.{◌≡◌, sym, ◌∙◌}
use Rattle.shared_service.specs.declared.sleepers.Call.TheVariants as call
use Rattle.shared_service.proofs.sleepers.Sleepers.end.Goals as goal

apart-takes : call.Takes ≡ call.Tells → ⊥
apart-takes is = absurd cc

apart-sleeps : call.Sleeps ≡ call.Tells → ⊥
apart-sleeps is = absurd cc

pub took-requires : goal.took-requires
took-requires g c = record { watched = c.requires.watched (λ tells. apart-takes (sym c.in-Takes.is ∙ tells)) }

pub slept-requires : goal.slept-requires
slept-requires g c = record { watched = c.requires.watched (λ tells. apart-sleeps (sym c.in-Sleeps.is ∙ tells)); sleeps = c.requires.sleeps c.in-Sleeps.is }
