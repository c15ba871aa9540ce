-- One more entry was read.
use Rattle.std.proofs.Common.{◌+◌, List, drop, sym, ap, ◌∙◌}
use Rattle.dbus_types.specs.ValueViews.{each_as}
use Rattle.secret_calls.specs.declared.secret.ItemSecret.{ItemSecret}
use Rattle.call_arguments.specs.Arguments.{all_in}
use Rattle.client_core.specs.Replies.{secret_entry, item_secret_at}
use Rattle.client_core.proofs.ReplyLemmas.{followed, all_next}
use Rattle.client_core.proofs.secrets.item_secrets_among.Goals as goal

pub loop-entry-preserved : goal.loop-entry-preserved
loop-entry-preserved c =
    let entries = c.args.entries.now in let i = c.loop-entry.entry-index in
    ap (λ (items : List ItemSecret). followed items (all_in item_secret_at (each_as secret_entry (drop (i + 1) entries)))) c.in_ok-push-in-Some.ensures.items
    ∙ all_next item_secret_at secret_entry entries i c.entry-item.result c.loop-entry.secrets.items c.in-Some.secret c.loop-entry-test.true c.entry-item.is (sym c.in-Some.is ∙ c.in_ok-secret.ensures)
    ∙ c.loop-entry.invariant
