use Rattle.std.proofs.Common.{◌≡◌, true, false, sym, ◌∙◌, ap, subst}
use Rattle.kr_base.specs.Text.{IsText}
use Rattle.kr_names.specs.Escape.{escaped}
use Rattle.kr_names.proofs.EscapeLemmas.{IsText-escaped}
use Rattle.kr_names.proofs.escape.escaped_stem.Goals as goal

-- what is spelled is a text
pub unreachable-requires : goal.unreachable-requires
unreachable-requires c =
    let spelled = c.in_ok-escape.ensures ∙ ap escaped (c.as_bytes.ensures.value ∙ c.as_str.ensures.value) in
    let some : false ≡ true = c.in-None.ensures.text.1 (subst IsText (sym spelled) (IsText-escaped c.args.stem.now c.as_str.ensures.stem)) in
    cc
