-- The number's digits end the path.
use Rattle.std.proofs.Common.{◌≡◌, ℕ, List, ◌++◌, decimal, OnOk, ap, subst, ◌∙◌}
use Rattle.dbus_types.specs.declared.complete_type.BasicType.TheVariants as basics
use Rattle.dbus_types.specs.Values.{Val}
use Rattle.dbus_marshal.specs.Putting.{put}
use Rattle.secret_calls.proofs.returns.put_numbered_path.Goals as goal

pub returns : goal.returns
returns g c = λ before at.
    let path : c.as_bytes.result.now ++ c.as_bytes-2.result.now ≡ c.args.front.now ++ decimal c.args.number =
    ap (λ (x : List ℕ). x ++ c.as_bytes-2.result.now) c.as_bytes.ensures.value
    ∙ ap (λ (x : List ℕ). c.args.front.now ++ x) (c.as_bytes-2.ensures.value ∙ c.format-digits.ensures.text) in
    subst (λ (t : List ℕ). OnOk c.put_long_path.result (g.P.Put.stands c.put_long_path.new.out (put before (Val.text basics.ObjectPath t))))
    path (c.put_long_path.ensures before at)
