use Rattle.std.proofs.Common.{◌≡◌, true, false, refl, sym, ◌∙◌, ap, subst, rules}
use Rattle.kr_base.specs.Text.{IsText}
use Rattle.kr_base.specs.Stem.{IsNoStem}
use Rattle.kr_names.specs.Escape.{escaped, unescaped}
use Rattle.kr_names.proofs.EscapeLemmas.{read_back, not_refused}
use Rattle.kr_names.proofs.escape.stem_of_escaped.Goals as goal

-- at each exit a stem that the text spells would have been found
pub returns-in_default : goal.returns-in_default
returns-in_default c = λ stem is.
    let found = read_back stem c.args.text.now c.in_ok-unescape.field-0.items (c.in_ok-unescape.ensures ∙ ap unescaped c.as_bytes.ensures.value) is in
    let some : false ≡ true = c.in_default.ensures.text.1 (subst IsText (sym found) is.is_stem.text) in
    cc

pub returns-in_default-from_text : goal.returns-in_default-from_text
returns-in_default-from_text c = λ stem is.
    let found = read_back stem c.args.text.now c.in_ok-unescape.field-0.items (c.in_ok-unescape.ensures ∙ ap unescaped c.as_bytes.ensures.value) is in
    not_refused stem is.is_stem (subst IsNoStem (c.in-Some.ensures.made ∙ found) (c.in_default-from_text.ensures.no_stem.0 refl))

pub returns-else-eq : goal.returns-else-eq
returns-else-eq c = λ stem is.
    let found = read_back stem c.args.text.now c.in_ok-unescape.field-0.items (c.in_ok-unescape.ensures ∙ ap unescaped c.as_bytes.ensures.value) is in
    let read = c.as_bytes-2.ensures.value ∙ c.as_str.ensures.value ∙ c.in-Some-from_text.ensures.made ∙ c.in-Some.ensures.made ∙ found in
    let same : c.in_ok-spelled.spelled.items ≡ c.args.text.now = c.in_ok-spelled.ensures ∙ ap escaped read ∙ sym is.spelled in
    let differ : c.in_ok-spelled.spelled.items ≡ c.args.text.now → ⊥ = search rules in
    differ same
