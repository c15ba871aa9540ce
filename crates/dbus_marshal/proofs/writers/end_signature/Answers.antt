use Rattle.std.proofs.Common.{ap, ◌∙◌, ℕ, ◌-◌}
use Rattle.dbus_marshal.proofs.WritingLemmas.{signature_ended}
use Rattle.dbus_marshal.proofs.writers.end_signature.Goals as goal

pub returns : goal.returns
returns c =
    signature_ended c.args.endian c.args.out.now.items c.put_length.new.out.items c.push.new.self.items c.args.mark _ c.put_length.ensures
    (ap (λ (k : ℕ). k - c.args.mark - 1) (c.len.ensures ∙ c.args.out.now.ok.0)) c.in_ok-push.ensures.items
