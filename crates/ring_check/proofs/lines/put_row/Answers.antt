use Rattle.std.proofs.Common.{◌≡◌, ◌∙◌, ◌++◌, sym, ap, append_assoc, codes}
use Rattle.ring_check.specs.Lines.{row_text, summary_text}
use Rattle.ring_check.proofs.LineLemmas.{on_ok}
use Rattle.ring_check.proofs.lines.put_row.Goals as goal

pub returns-in_ok-put_text-in-OtherPassword : goal.returns-in_ok-put_text-in-OtherPassword
unfolding row_text
returns-in_ok-put_text-in-OtherPassword c =
    let old = c.args.text.now.items in
    let summary = c.in-OtherPassword.summary in
    let new = c.put_summary-in-OtherPassword.new.text.items in
    on_ok c.put_summary-in-OtherPassword.result (new ≡ c.put_text-in-OtherPassword.new.text.items ++ summary_text summary) (new ≡ old ++ row_text c.args.row.now)
    c.put_summary-in-OtherPassword.ensures (λ h.
    h ∙ ap (λ l. l ++ summary_text summary) c.in_ok-put_text-in-OtherPassword.ensures
    ∙ append_assoc old (codes "other password, ") (summary_text summary)
    ∙ ap (λ r. old ++ row_text r) (sym c.in-OtherPassword.is))
