-- The text of a type is put together from the texts of its parts.
use Rattle.std.proofs.Common.{◌≡◌, ℕ, List, [], ◌∷◌, ◌++◌, Result, Ok, Err, sym, ap, subst, ◌∙◌, append_assoc}
use Rattle.std.specs.Result.{OnOk}
use Rattle.dbus_types.specs.declared.complete_type.CompleteType.{CompleteType}
use Rattle.dbus_types.specs.Types.{Ty, text_of, texts_of}
use Rattle.dbus_types.specs.Views.{type_of, types_of}
use Rattle.dbus_types.proofs.Views.{struct_is}
use Rattle.dbus_marshal.proofs.type_text.+types.Goals as goal

two : {T E : Type 0} (r : Result T E) (old one new a b : List ℕ) → one ≡ old ++ a → OnOk r (new ≡ one ++ b) → OnOk r (new ≡ old ++ (a ++ b))
two (Ok x) old one new a b p h = h ∙ ap (λ w. w ++ b) p ∙ append_assoc old a b
two (Err e) old one new a b p h = tt

three : {T E : Type 0} (r : Result T E) (old one more new a b c : List ℕ) → one ≡ old ++ a → more ≡ one ++ b → OnOk r (new ≡ more ++ c) → OnOk r (new ≡ old ++ (a ++ (b ++ c)))
three r old one more new a b c p q h = two r old one new a (b ++ c) p (two r one more new b c q h)

pub write_array-returns : goal.write_array-returns
write_array-returns t c = two c.write_type.result c.args.out.now.items c.put_code.new.out.items c.write_type.new.out.items (97 ∷ []) (text_of (type_of c.args.element.now)) c.in_ok-put_code.ensures c.write_type.ensures

pub write_struct-returns : goal.write_struct-returns
write_struct-returns t c =
    three c.put_code-2.result c.args.out.now.items c.put_code.new.out.items c.write_types.new.out.items c.put_code-2.new.out.items (40 ∷ []) (texts_of (types_of c.args.types.now)) (41 ∷ []) c.in_ok-put_code.ensures c.in_ok-write_types.ensures c.put_code-2.ensures

pub write_entry-returns : goal.write_entry-returns
write_entry-returns t c =
    rw (← c.code.ensures)
    (two c.put_code-3.result c.args.out.now.items c.put_code.new.out.items c.put_code-3.new.out.items (123 ∷ []) _ c.in_ok-put_code.ensures
    (three c.put_code-3.result c.put_code.new.out.items c.put_code-2.new.out.items c.write_type.new.out.items c.put_code-3.new.out.items (c.code.result ∷ []) (text_of (type_of c.args.value.now)) (125 ∷ []) c.in_ok-put_code-2.ensures c.in_ok-write_type.ensures
    c.put_code-3.ensures))

pub write_type-returns-in-Array : goal.write_type-returns-in-Array
write_type-returns-in-Array t c = rw (c.in-Array.is, ← c.deref.ensures) c.write_array.ensures

pub write_type-returns-in-Struct : goal.write_type-returns-in-Struct
write_type-returns-in-Struct t c =
    subst (λ (text : List ℕ). OnOk c.write_struct.result (c.write_struct.new.out.items ≡ c.args.out.now.items ++ text))
    (ap (λ (ts : List CompleteType). text_of (Ty.struct (types_of ts))) c.as_slice.ensures.value ∙ ap text_of (sym (struct_is c.in-Struct.fields)) ∙ ap (λ (x : CompleteType). text_of (type_of x)) (sym c.in-Struct.is))
    c.write_struct.ensures

pub write_type-returns-in-DictEntry : goal.write_type-returns-in-DictEntry
write_type-returns-in-DictEntry t c = rw (c.in-DictEntry.is, ← c.deref-in-DictEntry.ensures) c.write_entry.ensures
