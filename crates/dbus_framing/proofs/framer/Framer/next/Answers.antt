-- What was found after the bytes that messages consumed.
use Rattle.std.proofs.Common.{ap, ◌∙◌, drop, arith, length-drop}
use Rattle.dbus_framing.specs.Framers.{Framing}
use Rattle.dbus_framing.proofs.Fronts.{behind_found, kept_broken, kept_waiting, refused_again, refused_now, waits_now, not_broken, unbroken}
use Rattle.dbus_framing.proofs.Exact.{exact_none, exact_refused, exact_whole}
use Rattle.dbus_framing.proofs.framer.Framer.next.Goals as goal

pub returns-in-Broken-clause-refused : goal.returns-in-Broken-clause-refused
returns-in-Broken-clause-refused c = refused_again c.self.inside.most c.self.inside.start c.self.inside.fed.items c.self.inside.progress c.in-Broken.cause c.args.self.now c.self.invariant c.in-Broken.is c.self.view_is

pub returns-in-Broken-clause-exact : goal.returns-in-Broken-clause-exact
returns-in-Broken-clause-exact c = exact_refused _ _ _ (refused_again c.self.inside.most c.self.inside.start c.self.inside.fed.items c.self.inside.progress c.in-Broken.cause c.args.self.now c.self.invariant c.in-Broken.is c.self.view_is)

pub invariant_of-self-in-Broken-look : goal.invariant_of-self-in-Broken-look
invariant_of-self-in-Broken-look c =
    let it = behind_found c.self.inside.most c.self.inside.start c.self.inside.fed.items c.split_at.result.1.now c.in_ok-found.found _
    (record { within = omega (arith, c.self.invariant.few); rest_is = c.split_at.ensures.back ∙ ap (drop c.self.inside.start) c.as_slice.ensures.value; finds = c.in_ok-found.ensures; look_is = c.in-Broken-look.is }) in
    kept_broken c.self.inside.most c.self.inside.start c.in_ok-found.found.taken c.make_room-self-inside.result c.self.inside.fed.items c.make_room-self-inside.new.bytes.items c.in-Broken-look.cause c.self.invariant.limited it (record { rest = c.make_room-self-inside.ensures.rest; few = c.make_room-self-inside.ensures.few })

pub invariant_of-self-in-Waits : goal.invariant_of-self-in-Waits
invariant_of-self-in-Waits c =
    let it = behind_found c.self.inside.most c.self.inside.start c.self.inside.fed.items c.split_at.result.1.now c.in_ok-found.found _
    (record { within = omega (arith, c.self.invariant.few); rest_is = c.split_at.ensures.back ∙ ap (drop c.self.inside.start) c.as_slice.ensures.value; finds = c.in_ok-found.ensures; look_is = c.in-Waits.is }) in
    kept_waiting c.self.inside.most c.self.inside.start c.in_ok-found.found.taken c.make_room-self-inside.result c.self.inside.fed.items c.make_room-self-inside.new.bytes.items c.in-Waits.progress c.self.invariant.limited it
    (record { rest = c.make_room-self-inside.ensures.rest; few = c.make_room-self-inside.ensures.few })

pub returns-in-Waits : goal.returns-in-Waits
returns-in-Waits c =
    let it = behind_found c.self.inside.most c.self.inside.start c.self.inside.fed.items c.split_at.result.1.now c.in_ok-found.found _
    (record { within = omega (arith, c.self.invariant.few); rest_is = c.split_at.ensures.back ∙ ap (drop c.self.inside.start) c.as_slice.ensures.value; finds = c.in_ok-found.ensures; look_is = c.in-Waits.is }) in
    let waits = waits_now c.self.inside.most c.self.inside.start c.in_ok-found.found.taken c.self.inside.fed.items _ c.self.inside.progress c.in-Waits.progress c.args.self.now it c.make_room-self-inside.ensures.rest c.self.view_is in
    record {
      message = tt;
      waits = (waits.stream, waits.no_violation);
      unbroken = it.sees.unbroken;
      most = ap (λ (f : Framing). f.most) c.self.view_is;
      few = omega (arith, c.make_room-self-inside.ensures.few, length-drop c.make_room-self-inside.result c.make_room-self-inside.new.bytes.items);
      refused = tt;
      remembered = λ cause broken. absurd (not_broken c.self.inside.most c.self.inside.start c.self.inside.fed.items c.self.inside.progress c.args.self.now cause (unbroken c.self.inside.progress c.in_default.not-Broken) c.self.view_is broken);
      exact = exact_none c.args.self.now.most c.args.self.now.rest _ waits.stream waits.no_violation;
    }

pub returns-in-Broken-look : goal.returns-in-Broken-look
returns-in-Broken-look c =
    let it = behind_found c.self.inside.most c.self.inside.start c.self.inside.fed.items c.split_at.result.1.now c.in_ok-found.found _
    (record { within = omega (arith, c.self.invariant.few); rest_is = c.split_at.ensures.back ∙ ap (drop c.self.inside.start) c.as_slice.ensures.value; finds = c.in_ok-found.ensures; look_is = c.in-Broken-look.is }) in
    let refused = refused_now c.self.inside.most c.self.inside.start c.in_ok-found.found.taken c.make_room-self-inside.result c.self.inside.fed.items c.make_room-self-inside.new.bytes.items c.in-Broken-look.cause c.self.inside.progress c.args.self.now it (record { rest = c.make_room-self-inside.ensures.rest; few = c.make_room-self-inside.ensures.few }) c.self.view_is in
    record {
      message = tt;
      waits = tt;
      unbroken = tt;
      most = ap (λ (f : Framing). f.most) c.self.view_is;
      few = omega (arith, c.make_room-self-inside.ensures.few, length-drop c.make_room-self-inside.result c.make_room-self-inside.new.bytes.items);
      refused = refused;
      remembered = λ cause broken. absurd (not_broken c.self.inside.most c.self.inside.start c.self.inside.fed.items c.self.inside.progress c.args.self.now cause (unbroken c.self.inside.progress c.in_default.not-Broken) c.self.view_is broken);
      exact = exact_refused _ _ _ refused;
    }

pub returns-in-Whole-clause-exact : goal.returns-in-Whole-clause-exact
returns-in-Whole-clause-exact c =
    let it = behind_found c.self.inside.most c.self.inside.start c.self.inside.fed.items c.split_at.result.1.now c.in_ok-found.found _
    (record { within = omega (arith, c.self.invariant.few); rest_is = c.split_at.ensures.back ∙ ap (drop c.self.inside.start) c.as_slice.ensures.value; finds = c.in_ok-found.ensures; look_is = c.in-Whole.is }) in
    rw c.in-Whole.message-is (exact_whole c.self.inside.most c.self.inside.start c.in_ok-found.found.taken c.self.inside.fed.items c.in-Whole.message c.self.inside.progress c.args.self.now it c.self.view_is)
