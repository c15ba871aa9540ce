-- Each copy stands for the type that was copied.
use Rattle.std.proofs.Common.{ap, sym, ◌∙◌, take_all}
use Rattle.dbus_types.specs.Types.{struct}
use Rattle.dbus_types.specs.Views.{type_of, types_of}
use Rattle.dbus_types.proofs.Views.{struct_is, types_of-one_more}
use Rattle.dbus_types.proofs.complete_type.+copies.Goals as goal

pub CompleteType::copy-returns-in_ok-copied-in-Struct : goal.CompleteType::copy-returns-in_ok-copied-in-Struct
CompleteType::copy-returns-in_ok-copied-in-Struct t c =
    struct_is c.in_ok-copied-in-Struct.copied
    ∙ ap struct (c.in_ok-copied-in-Struct.ensures ∙ ap types_of c.as_slice.ensures.value)
    ∙ sym (struct_is c.in-Struct.fields) ∙ ap type_of (sym c.in-Struct.is)

pub copy_types-loop-each-preserved : goal.copy_types-loop-each-preserved
copy_types-loop-each-preserved t c =
    ap types_of c.in_ok-push.ensures.items
    ∙ types_of-one_more c.loop-each.copied.items c.args.types.now c.in_ok-copy.field-0 c.each-item.result c.loop-each.each-index c.loop-each-test.true c.each-item.is c.in_ok-copy.ensures c.loop-each.invariant

pub copy_types-returns : goal.copy_types-returns
copy_types-returns t c = c.loop-each.invariant ∙ ap types_of (take_all c.loop-each.each-index c.args.types.now c.loop-each-test.false)
