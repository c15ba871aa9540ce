-- The texts of the parts come one after the other.
use Rattle.std.proofs.Common.{◌+◌, [], ◌∷◌, ◌++◌, drop, ap, sym, ◌∙◌}
use Rattle.std.specs.Option.{option_copied}
use Rattle.dbus_types.specs.Types.{code_of, text_of, texts_of}
use Rattle.dbus_types.specs.Views.{type_of, types_of}
use Rattle.dbus_types.proofs.Views.{struct_is}
use Rattle.call_arguments.specs.Fronts.{behind}
use Rattle.call_arguments.proofs.FrontLemmas.{goes_on, stops, types-from}
use Rattle.call_arguments.proofs.arguments.+texts.Goals as goal

pub behind_type-returns-in_err-rest-in-Struct-2 : goal.behind_type-returns-in_err-rest-in-Struct-2
behind_type-returns-in_err-rest-in-Struct-2 t c =
    let types = texts_of (types_of c.in-Struct.fields.items) in
    let is = ap (λ x. behind (text_of x) c.args.text.now) (ap type_of c.in-Struct.is ∙ struct_is c.in-Struct.fields) in
    let inside = c.in_err-rest-in-Struct-2.ensures ∙ ap (λ ts. behind (texts_of (types_of ts)) c.in_ok-rest-in-Struct.rest.now) c.as_slice.ensures.value in
    ap option_copied c.from_residual-in_err-rest-in-Struct-2.ensures
    ∙ sym (is ∙ goes_on (40 ∷ []) (types ++ 41 ∷ []) c.args.text.now c.in_ok-rest-in-Struct.rest.now c.in_ok-rest-in-Struct.ensures ∙ stops types (41 ∷ []) c.in_ok-rest-in-Struct.rest.now inside)

pub behind_type-returns-in_ok-rest-in-Struct-2 : goal.behind_type-returns-in_ok-rest-in-Struct-2
behind_type-returns-in_ok-rest-in-Struct-2 t c =
    let types = texts_of (types_of c.in-Struct.fields.items) in
    let is = ap (λ x. behind (text_of x) c.args.text.now) (ap type_of c.in-Struct.is ∙ struct_is c.in-Struct.fields) in
    let inside = c.in_ok-rest-in-Struct-2.ensures ∙ ap (λ ts. behind (texts_of (types_of ts)) c.in_ok-rest-in-Struct.rest.now) c.as_slice.ensures.value in
    c.behind_code-in-Struct-2.ensures
    ∙ sym (is ∙ goes_on (40 ∷ []) (types ++ 41 ∷ []) c.args.text.now c.in_ok-rest-in-Struct.rest.now c.in_ok-rest-in-Struct.ensures
    ∙ goes_on types (41 ∷ []) c.in_ok-rest-in-Struct.rest.now c.in_ok-rest-in-Struct-2.rest.now inside)

pub behind_type-returns-in_err-rest-in-DictEntry-3 : goal.behind_type-returns-in_err-rest-in-DictEntry-3
behind_type-returns-in_err-rest-in-DictEntry-3 t c =
    let key = code_of c.in-DictEntry.key in
    let value = text_of (type_of c.in-DictEntry.value.value) in
    let inside = c.in_err-rest-in-DictEntry-3.ensures ∙ ap (λ x. behind (text_of (type_of x)) c.in_ok-rest-in-DictEntry-2.rest.now) c.deref-in-DictEntry.ensures in
    let keyed = c.in_ok-rest-in-DictEntry-2.ensures ∙ ap (λ code. behind (code ∷ []) c.in_ok-rest-in-DictEntry.rest.now) c.code-in-DictEntry.ensures in
    ap option_copied c.from_residual-in_err-rest-in-DictEntry-3.ensures
    ∙ sym (ap (λ x. behind (text_of (type_of x)) c.args.text.now) c.in-DictEntry.is
    ∙ goes_on (123 ∷ []) (key ∷ (value ++ 125 ∷ [])) c.args.text.now c.in_ok-rest-in-DictEntry.rest.now c.in_ok-rest-in-DictEntry.ensures
    ∙ goes_on (key ∷ []) (value ++ 125 ∷ []) c.in_ok-rest-in-DictEntry.rest.now c.in_ok-rest-in-DictEntry-2.rest.now keyed
    ∙ stops value (125 ∷ []) c.in_ok-rest-in-DictEntry-2.rest.now inside)

pub behind_type-returns-in_ok-rest-in-DictEntry-3 : goal.behind_type-returns-in_ok-rest-in-DictEntry-3
behind_type-returns-in_ok-rest-in-DictEntry-3 t c =
    let key = code_of c.in-DictEntry.key in
    let value = text_of (type_of c.in-DictEntry.value.value) in
    let inside = c.in_ok-rest-in-DictEntry-3.ensures ∙ ap (λ x. behind (text_of (type_of x)) c.in_ok-rest-in-DictEntry-2.rest.now) c.deref-in-DictEntry.ensures in
    let keyed = c.in_ok-rest-in-DictEntry-2.ensures ∙ ap (λ code. behind (code ∷ []) c.in_ok-rest-in-DictEntry.rest.now) c.code-in-DictEntry.ensures in
    c.behind_code-in-DictEntry-3.ensures
    ∙ sym (ap (λ x. behind (text_of (type_of x)) c.args.text.now) c.in-DictEntry.is
    ∙ goes_on (123 ∷ []) (key ∷ (value ++ 125 ∷ [])) c.args.text.now c.in_ok-rest-in-DictEntry.rest.now c.in_ok-rest-in-DictEntry.ensures
    ∙ goes_on (key ∷ []) (value ++ 125 ∷ []) c.in_ok-rest-in-DictEntry.rest.now c.in_ok-rest-in-DictEntry-2.rest.now keyed
    ∙ goes_on value (125 ∷ []) c.in_ok-rest-in-DictEntry-2.rest.now c.in_ok-rest-in-DictEntry-3.rest.now inside)

pub behind_types-returns-in_err-rest : goal.behind_types-returns-in_err-rest
behind_types-returns-in_err-rest t c =
    let types = c.args.types.now in let i = c.loop-each.each-index in let each = c.each-item.result in
    ap option_copied c.from_residual.ensures
    ∙ sym (sym c.loop-each.invariant ∙ ap (λ front. behind front c.loop-each.rest.now) (types-from types i each c.loop-each-test.true c.each-item.is)
    ∙ stops (text_of (type_of each)) (texts_of (types_of (drop (i + 1) types))) c.loop-each.rest.now c.in_err-rest.ensures)

pub behind_types-loop-each-preserved : goal.behind_types-loop-each-preserved
behind_types-loop-each-preserved t c =
    let types = c.args.types.now in let i = c.loop-each.each-index in let each = c.each-item.result in
    sym (goes_on (text_of (type_of each)) (texts_of (types_of (drop (i + 1) types))) c.loop-each.rest.now c.in_ok-rest.rest.now c.in_ok-rest.ensures)
    ∙ sym (ap (λ front. behind front c.loop-each.rest.now) (types-from types i each c.loop-each-test.true c.each-item.is)) ∙ c.loop-each.invariant
