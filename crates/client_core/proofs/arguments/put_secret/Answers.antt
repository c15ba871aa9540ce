-- The four fields are put one after another.
use Rattle.std.proofs.Common.{ℕ, List, [], OnOk, ap, subst, ◌∙◌}
use Rattle.dbus_types.specs.declared.complete_type.BasicType.TheVariants as basics
use Rattle.dbus_types.specs.Values.{Val}
use Rattle.dbus_marshal.specs.Putting.{padded, put}
use Rattle.dbus_marshal.proofs.PutLemmas.{struct_of_4}
use Rattle.client_core.specs.Arguments.{path_value, session_text}
use Rattle.client_core.proofs.arguments.put_secret.Goals as goal

pub returns : goal.returns
returns g c = λ before at.
    let secret = c.args.secret.now in
    let path = path_value (session_text secret.session) in
    let opened = put (put (padded 8 before) path) (Val.bytes []) in
    subst (λ (bytes : List ℕ). OnOk c.put_text.result (g.P.Put.stands c.put_text.new.out bytes))
    (ap (λ (value : List ℕ). put (put opened (Val.bytes value)) (Val.text basics.String c.as_bytes.result.now)) c.as_slice.ensures
    ∙ ap (λ (content : List ℕ). put (put opened (Val.bytes secret.value)) (Val.text basics.String content)) c.as_bytes.ensures.value
    ∙ struct_of_4 before path (Val.bytes []) (Val.bytes secret.value) (Val.text basics.String secret.content))
    (c.put_text.ensures _ (c.in_ok-put_bytes-2.ensures _ (c.in_ok-put_bytes.ensures _ (c.in_ok-put_session.ensures _ (c.in_ok-pad_to.ensures before at)))))
