use Rattle.std.proofs.Common.{rules, ◌≡◌, [], ◌++◌, refl, ap, ◌∙◌}
use Rattle.service_desk.specs.secret_calls.specs.declared.taken.Taken.TheVariants as taken
use Rattle.service_desk.specs.Places.{Home}
use Rattle.service_desk.specs.Views.{with_others}
use Rattle.shared_service.specs.Tries.{after_take}
use Rattle.shared_service.proofs.Calls.{none-more, more-others, takes-after}
use Rattle.shared_service.proofs.shared.SharedService.take.Goals as goal

pub loop-init : goal.loop-init
loop-init g c = (tt, tt, refl, refl, ([], none-more c.args.pass.now.view))

pub try_take-taken-requires : goal.try_take-taken-requires
try_take-taken-requires g c = record { table = ap (λ (h : Home). h.table) c.loop.invariant.2 ∙ c.requires.table }

pub loop-preserved : goal.loop-preserved
loop-preserved g c =
    let tried = c.try_take-taken.ensures.tried in
    let empty : c.try_take-taken.result.0 ≡ taken.Empty = search rules in (
      tt,
      tt,
      c.try_take-taken.ensures.same ∙ c.loop.invariant.2,
      c.try_take-taken.ensures.steady ∙ c.loop.invariant.3,
      (
        c.loop.invariant.4.0 ++ tried.between,
        tried.is ∙ (ap (λ t. after_take c.args.conn t (with_others tried.between c.loop.pass.view)) empty
            ∙ (ap (with_others tried.between) c.loop.invariant.4.1 ∙ more-others c.args.pass.now.view c.loop.invariant.4.0 tried.between)),
      ),
    )

pub returns-in_default : goal.returns-in_default
returns-in_default g c = record {
  same = c.try_take-taken.ensures.same ∙ c.loop.invariant.2;
  steady = c.try_take-taken.ensures.steady ∙ c.loop.invariant.3;
  taken = takes-after c.args.conn c.args.pass.now.home c.args.pass.now.steady c.args.pass.now.view c.loop.pass.view c.try_take-taken.new.pass.view c.loop.invariant.4.0 c.try_take-taken.result.0 c.loop.invariant.4.1 c.try_take-taken.ensures.tried (λ empty. c.in_default.not-Empty empty);
}
