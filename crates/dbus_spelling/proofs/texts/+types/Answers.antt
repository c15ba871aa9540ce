use Rattle.std.proofs.Common.{List, [], ◌∷◌, ◌++◌, sym, ap, ◌∙◌}
use Rattle.dbus_types.specs.declared.complete_type.CompleteType.{CompleteType}
use Rattle.dbus_types.specs.Types.{text_of, texts_of}
use Rattle.dbus_types.specs.Views.{type_of, types_of}
use Rattle.dbus_types.proofs.Views.{struct_is}
use Rattle.dbus_spelling.proofs.PartLemmas.{struct_text}
use Rattle.dbus_spelling.proofs.texts.+types.Goals as goal

pub text_of_type-returns-in_ok-made-in-Struct : goal.text_of_type-returns-in_ok-made-in-Struct
text_of_type-returns-in_ok-made-in-Struct t c =
    struct_text (texts_of (types_of c.as_slice-in-Struct.result.now)) _ _ _ _ _ c.in_ok-inner-in-Struct.ensures c.as_slice-in-Struct-2.ensures.value c.in_ok-ended-in-Struct.ensures c.as_slice-in-Struct-3.ensures.value c.in_ok-made-in-Struct.ensures
    ∙ ap (λ (l : List CompleteType). 40 ∷ (texts_of (types_of l) ++ 41 ∷ [])) c.as_slice-in-Struct.ensures.value
    ∙ ap text_of (sym (struct_is c.in-Struct.fields)) ∙ ap (λ (x : CompleteType). text_of (type_of x)) (sym c.in-Struct.is)
