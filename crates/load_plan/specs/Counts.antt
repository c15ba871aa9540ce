-- What is counted over the replies to the calls of a load (docs/SERVICE.md, "The load").
use Rattle.std.specs.Prelude.{ℕ, ◌+◌, ◌-◌, min, List, length, if◌then◌else◌}
use Rattle.std.specs.Str.{bytes_eq}
use Rattle.secret_calls.specs.declared.secret.ReturnedSecret.{ReturnedSecret}
use Rattle.secret_calls.specs.declared.call.Call.{Call}
use Rattle.secret_calls.specs.declared.call.Call.TheVariants as call
use Rattle.secret_calls.specs.declared.out.Body.{Body}
use Rattle.secret_calls.specs.declared.out.Body.TheVariants as body
use Rattle.client_core.specs.declared.reply.Reply.{Reply}
use Rattle.client_core.specs.declared.reply.Reply.TheVariants as reply
use Rattle.load_plan.specs.Words.{secret_of}
use Rattle.load_plan.specs.declared.counts.Counts.{Counts}

-- the last number of a count, at which it stays
abbrev pub last_count : ℕ
last_count = 18446744073709551615

-- a count with so many more
abbrev pub raised : ℕ → ℕ → ℕ
raised count more = min (count + more) last_count

-- nothing counted
abbrev pub none : Counts
none = record { items = 0; found = 0; read = 0; errors = 0 }

-- what a return counts: an item that was made, what a search found, and a secret that is the one that was stored
abbrev pub returned : ℕ → Counts → Call → Body → Counts
returned seed counts (call.CreateItem collection label attributes secret replace) (body.ObjectAndPrompt object prompt) =
    record counts { items = raised counts.items 1 }
returned seed counts (call.SearchItems wanted) (body.Found unlocked locked) =
    record counts { found = raised (raised counts.found (length unlocked)) (length locked) }
returned seed counts (call.GetSecret stem item session) (body.Secret secret) =
    if bytes_eq secret.value (secret_of seed (item.0 - 1)) then record counts { read = raised counts.read 1 } else counts
returned seed counts call body = counts

-- the counts with one more reply to a call
abbrev pub counted : ℕ → Counts → Call → Reply → Counts
counted seed counts call (reply.Return body) = returned seed counts call body
counted seed counts call (reply.Error name) = record counts { errors = raised counts.errors 1 }
