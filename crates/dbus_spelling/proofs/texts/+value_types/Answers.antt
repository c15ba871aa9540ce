use Rattle.std.proofs.Common.{sym, ap, ◌∙◌}
use Rattle.dbus_types.specs.Types.{Ty, text_of, texts_of}
use Rattle.dbus_types.specs.Values.{Val, ty_of, tys_of}
use Rattle.dbus_types.specs.ValueViews.{values_of}
use Rattle.dbus_spelling.proofs.PartLemmas.{struct_text}
use Rattle.dbus_spelling.proofs.texts.+value_types.Goals as goal

pub text_of_struct_type-returns : goal.text_of_struct_type-returns
text_of_struct_type-returns t c =
    struct_text (texts_of (tys_of (values_of c.in-Some.fields.now))) _ _ _ _ _ c.in_ok-inner.ensures c.as_slice.ensures.value c.in_ok-ended.ensures c.as_slice-2.ensures.value c.in_ok-made.ensures
    ∙ ap (λ (v : Val). text_of (ty_of v)) (sym (c.in-Some.ensures.fields.1 Ty.variant))
