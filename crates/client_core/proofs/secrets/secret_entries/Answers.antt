-- An array's entries are those of its vector.
use Rattle.std.proofs.Common.{◌≡◌, true, Some, sym, ap, ◌∙◌}
use Rattle.dbus_types.specs.declared.value.TypedArray.{TypedArray}
use Rattle.dbus_types.specs.Views.{type_of}
use Rattle.dbus_types.specs.ValueViews.{value_of, each_as}
use Rattle.dbus_types.proofs.ValueViews.{plain_array}
use Rattle.client_core.specs.Replies.{secret_entry, is_secret_entry, secret_entries}
use Rattle.client_core.proofs.ReplyLemmas.{entries_are}
use Rattle.client_core.proofs.secrets.secret_entries.Goals as goal

pub returns-else-not-is_secret_entry : goal.returns-else-not-is_secret_entry
returns-else-not-is_secret_entry c =
    let held = c.in-Array.array.value in
    let test : is_secret_entry (type_of held.element) ≡ true =
    ap (λ (a : TypedArray). is_secret_entry (type_of a.element)) (sym c.deref.ensures) ∙ sym c.is_secret_entry.ensures ∙ c.if-not-is_secret_entry.false in
    ap (λ vs. Some (each_as secret_entry vs)) (c.as_slice.ensures.value ∙ ap (λ (a : TypedArray). a.values.items) c.deref-in-Array.ensures)
    ∙ entries_are (type_of held.element) held.values.items test
    ∙ sym (ap secret_entries (ap value_of c.in-Array.is ∙ plain_array c.in-Array.array))
