-- The secrets read so far, followed by those of the remaining entries, are all secrets.
use Rattle.std.proofs.Common.{◌≡◌, drop}
use Rattle.dbus_types.specs.ValueViews.{each_as}
use Rattle.call_arguments.specs.Arguments.{all_in}
use Rattle.client_core.specs.Replies.{secret_entry, item_secret_at}
use Rattle.client_core.proofs.ReplyLemmas.{followed}
use Rattle.client_core.proofs.secrets.item_secrets_among.Given as goal

abbrev pub invariant-loop-entry : goal.invariant-loop-entry
invariant-loop-entry l =
    followed l.secrets.items (all_in item_secret_at (each_as secret_entry (drop l.entry-index l.entries)))
    ≡ all_in item_secret_at (each_as secret_entry l.entries)
