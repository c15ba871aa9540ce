-- The texts of the types of a struct's fields are between its brackets.
use Rattle.std.proofs.Common.{List, ◌++◌, sym, ap, ◌∙◌}
use Rattle.dbus_types.specs.Types.{Ty, text_of, texts_of}
use Rattle.dbus_types.specs.Values.{Val, ty_of, tys_of}
use Rattle.dbus_types.specs.ValueViews.{values_of}
use Rattle.dbus_marshal.proofs.WritingLemmas.{struct_text}
use Rattle.dbus_marshal.proofs.type_text.+value_types.Goals as goal

pub write_struct_type-returns : goal.write_struct_type-returns
write_struct_type-returns t c =
    struct_text c.args.out.now.items c.push.new.self.items c.write_types_of.new.out.items c.push-2.new.self.items (texts_of (tys_of (values_of c.in-Some.fields.now)))
    c.in_ok-push.ensures.items c.in_ok-write_types_of.ensures c.in_ok-push-2.ensures.items
    ∙ ap (λ (v : Val). c.args.out.now.items ++ text_of (ty_of v)) (sym (c.in-Some.ensures.fields.1 Ty.variant))
