use Rattle.std.proofs.Common.{◌≡◌, ℕ, List, ◌++◌, append-nil, Err, ap, sym, ◌∙◌}
use Rattle.load_plan.proofs.SendingLemmas.{sent-whole, sent-none}
use Rattle.load_plan.proofs.sending.add_message.Goals as goal

-- the message was appended
pub returns-in_ok-extend_from_slice-in-Ok : goal.returns-in_ok-extend_from_slice-in-Ok
returns-in_ok-extend_from_slice-in-Ok c =
    c.in_ok-extend_from_slice-in-Ok.ensures.items
    ∙ ap (λ (l : List ℕ). c.args.bytes.now.items ++ l) (c.as_slice.ensures.value ∙ c.in-Ok.ensures.bytes ∙ sym (sent-whole c.args.call.now c.args.serial c.in-Ok.ensures.fits))

-- it would be too large
pub returns-in-Err-TooLarge : goal.returns-in-Err-TooLarge
returns-in-Err-TooLarge c =
    sym (append-nil c.args.bytes.now.items)
    ∙ ap (λ (l : List ℕ). c.args.bytes.now.items ++ l) (sym (sent-none c.args.call.now c.args.serial (c.in-Err-TooLarge.ensures.too_large (ap Err c.in-Err-TooLarge.field-0-is))))
