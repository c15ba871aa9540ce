use Rattle.std.proofs.Common.{◌≡◌, false, rules, sym, ◌∙◌}
use Rattle.std.specs.Prelude.{codes}
use Rattle.command_words.specs.Arguments.{is_plain}
use Rattle.command_words.proofs.ArgumentLemmas.{is_fault}
use Rattle.command_words.proofs.beginning.beginning_of.Goals as goal

pub returns-in-None : goal.returns-in-None
returns-in-None c =
    let plain : is_plain c.in-Some.word.now ≡ false = rw (← c.as_bytes.ensures.value) (sym c.is_plain.ensures ∙ c.if-is_plain.false) in
    let apart : c.as_str.result.now ≡ codes "--" → ⊥ = search rules in
    is_fault c.args.words.now c.in-Some.word.now c.in-Some.more.now c.in-Some.ensures.cases.0 plain (rw c.as_str.ensures.value at apart)
    c.in_default-option_at.ensures c.in_default-option_at-2.ensures (rw c.as_str-2.ensures.value at c.in-None.ensures)
