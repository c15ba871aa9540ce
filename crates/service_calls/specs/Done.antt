-- What a call led to, and that it is what its plan leads to.
use Rattle.std.specs.Prelude.{◌≡◌, ℕ, Bool, List, [], ◌∷◌, ◌++◌, Option, Some, None, Result, Ok, Err}
use Rattle.kr_base.specs.declared.ids.ConnId.{ConnId}
use Rattle.kr_outside.specs.RenameDisk.{Image}
use Rattle.service_events.specs.collection_store.specs.declared.change.Changed.{Changed}
use Rattle.service_events.specs.secret_calls.specs.declared.out.Body.{Body}
use Rattle.service_events.specs.secret_calls.specs.declared.out.ErrorName.{ErrorName}
use Rattle.service_events.specs.secret_calls.specs.declared.out.ErrorName.TheVariants as name
use Rattle.service_events.specs.secret_calls.specs.declared.out.Out.{Out}
use Rattle.service_events.specs.service_tables.specs.declared.fate.Fate.{Fate}
use Rattle.service_events.specs.service_tables.specs.declared.fate.StoreFate.{StoreFate}
use Rattle.service_events.specs.service_tables.specs.declared.fate.StoreFate.TheVariants as fate
use Rattle.service_events.specs.service_tables.specs.signal_fanout.specs.declared.rows.Delivery.{Delivery}
use Rattle.service_events.specs.service_tables.specs.Connections.{HasRoomFor, Rooms, spread}
use Rattle.service_events.specs.service_tables.specs.Disk.{DiskState}
use Rattle.service_events.specs.service_tables.specs.State.{State}
use Rattle.service_events.specs.service_tables.specs.Storing.{Brought}
use Rattle.service_calls.specs.declared.storing.Done.{Done}
use Rattle.service_calls.specs.declared.storing.Returned.{Returned}
use Rattle.service_calls.specs.declared.storing.Returned.TheVariants as returned
use Rattle.service_events.specs.CollectionCalls.{made, no_prompt}
use Rattle.service_events.specs.Fates.{reads_of, stores_of}
use Rattle.service_events.specs.Plan.{Plan, Ends, Asks, Resolves, Opens}
use Rattle.service_events.specs.PublicBody.{PublicBody}
use Rattle.service_events.specs.PublicBody as public
use Rattle.service_events.specs.Run.{AreFates, filled, run}
use Rattle.service_events.specs.Stored.{StoresOf}

-- there is room for a reply to the caller, and for what is delivered after it
abbrev pub HasRoomToReply : ConnId → List Delivery → Rooms → Type 0
HasRoomToReply caller sends rooms = (reply : Out) → HasRoomFor (record { to = caller; out = reply } ∷ sends) rooms

-- what a plan answers that changes nothing and asks for nothing, before the size of its return is looked at
abbrev pub reads : ConnId → State → Plan → Option (Result Body ErrorName)
reads caller state (Ends answer []) = Some (filled caller state answer)
reads caller state (Ends answer (change ∷ changes)) = None
reads caller state (Asks demand next) = None
reads caller state (Resolves reading unread next) = None
reads caller state (Opens stem terms next) = None

-- how what a call asked for ended: first the resolve of a file, and then storing one
abbrev pub fates_in : Done → List Fate
fates_in done = reads_of done.read ++ stores_of done.fate

-- what is answered once the disk was asked
abbrev pub answer_by : Body → StoreFate → Result Body ErrorName
answer_by body fate.Stored = Ok body
answer_by body fate.Before = Err name.IOError
answer_by body fate.Unsure = Err name.IOError

-- what is sent after a file was to be stored, by how that ended
abbrev pub said_by : List Delivery → List Delivery → StoreFate → List Delivery
said_by done perhaps fate.Stored = done
said_by done perhaps fate.Before = []
said_by done perhaps fate.Unsure = perhaps

-- what an edit returns
abbrev pub body_of : Returned → List ℕ → Changed → PublicBody
body_of returned.Item stem answer = made stem answer
body_of returned.NoPrompt stem answer = no_prompt
body_of returned.Nothing stem answer = public.Empty

module _ {F S : Type 0} (folder_honest folder_steady : F → Bool) (folder_faults : F → ℕ) (images : F → List ℕ → Image)
    (folder_leaves : F → List ℕ → Image → Type 0) (names_made : F → List (List ℕ)) (is_honest is_steady : S → Bool) (faults moment : S → ℕ)
    (left_since : S → ℕ → Image → Type 0) (may_leave : S → Image → Type 0) where
  -- A call leads to what its plan does: to this answer, to this state, to these deliveries of what it sends, and with these fates to this disk.
  pub record Leads (caller : ConnId) (brought : Brought) (plan : Plan) (before after : State) (old new : DiskState F S) (done : Done) : Type 0 where
    pub answer : done.answer ≡ (run caller brought plan (fates_in done) before).answer
    pub state : after ≡ (run caller brought plan (fates_in done) before).state
    pub sends : done.sends ≡ spread before.connections.rows (run caller brought plan (fates_in done) before).sends
    pub fates : AreFates caller brought plan (fates_in done) before
    pub disk : StoresOf folder_honest folder_steady folder_faults images folder_leaves names_made is_honest is_steady faults moment left_since may_leave caller brought plan (fates_in done) before old new
