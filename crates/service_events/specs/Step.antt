-- One event of the service, as a step from rows to rows. What an event puts out is defined apart from what becomes of it,
-- so that laws can speak of the outputs before the limit on what waits.
use Rattle.std.specs.Prelude.{◌≡◌, ℕ, ◌^◌, ◌<◌, ◌≤◌, ◌⊎◌, true, false, if◌then◌else◌, IsTrue, IfSome, IsSomeAnd, List, [], ◌∷◌, ◌++◌, length, Option, Some, None, Result, Ok, Err}
use Rattle.std.specs.List.{AllByRecursion}
use Rattle.std.specs.Option.{option_and_then, option_map}
use Rattle.kr_base.specs.Attributes.{value_at}
use Rattle.kr_base.specs.declared.ids.ConnId.{ConnId}
use Rattle.kr_base.specs.declared.ids.PromptId.{PromptId}
use Rattle.service_prompts.specs.collection_table.specs.Rows.{CollectionRow, Rows}
use Rattle.service_prompts.specs.secret_calls.specs.declared.call.Call.{Call}
use Rattle.service_prompts.specs.secret_calls.specs.declared.call.Call.TheVariants as call
use Rattle.service_prompts.specs.secret_calls.specs.declared.call.CallFault.{CallFault}
use Rattle.service_prompts.specs.secret_calls.specs.declared.call.Request.{Request}
use Rattle.service_prompts.specs.secret_calls.specs.declared.out.Body.{Body}
use Rattle.service_prompts.specs.secret_calls.specs.declared.out.ErrorName.{ErrorName}
use Rattle.service_prompts.specs.secret_calls.specs.declared.out.Out.{Out}
use Rattle.service_prompts.specs.secret_calls.specs.declared.out.Out.TheVariants as out
use Rattle.service_prompts.specs.secret_calls.specs.declared.serial.Serial.{Serial}
use Rattle.service_prompts.specs.secret_calls.specs.declared.work.Work.{Work}
use Rattle.service_prompts.specs.secret_calls.specs.Calls.{error_of}
use Rattle.keyring_text.specs.Fields.{IsBytes}
use Rattle.prompt_state.specs.Prompts as prompts
use Rattle.prompt_state.specs.Prompts.{derives_in, row_at}
use Rattle.prompt_state.specs.Targets.{first_left}
use Rattle.prompt_state.specs.declared.row.PromptKind.{PromptKind}
use Rattle.prompt_state.specs.declared.row.PromptKind.TheVariants as kind
use Rattle.prompt_state.specs.declared.row.PromptRow.{PromptRow}
use Rattle.prompt_state.specs.declared.targets.Target.{Target}
use Rattle.replace_slot.specs.Cell.{File, new_image, old_image}
use Rattle.session_table.specs.Sessions.{abandoned}
use Rattle.service_prompts.specs.service_tables.specs.signal_fanout.specs.declared.rows.ConnRow.{ConnRow}
use Rattle.service_prompts.specs.service_tables.specs.Storing.{Add_item, Brought}
use Rattle.service_prompts.specs.service_tables.specs.Sound.{AreAttributeTypes, AreItemTypes, AreSecretTypes, IsTypedAlias, IsTypedText}
use Rattle.service_events.specs.declared.event.Arrival.{Arrival}
use Rattle.service_events.specs.declared.event.Derivation.{Derivation}
use Rattle.service_events.specs.declared.event.Recorded.{Recorded}
use Rattle.service_events.specs.declared.event.Event.{Event}
use Rattle.service_events.specs.declared.event.Event.TheVariants as event
use Rattle.service_events.specs.declared.event.Output.{Output}
use Rattle.service_events.specs.declared.event.Output.TheVariants as output
use Rattle.service_events.specs.AgentCalls.{refuse, register, unregister}
use Rattle.service_events.specs.AliasCalls.{read_alias, set_alias}
use Rattle.service_events.specs.AnswerCalls.{answer_prompt}
use Rattle.service_events.specs.Derivation.{derived, new_iterations}
use Rattle.service_events.specs.CollectionCalls.{search_collection, create_item, delete_collection}
use Rattle.service_prompts.specs.service_tables.specs.Connections.{joined, has, changed, without, left, emptied, waiting_for, desk_of, delivered}
use Rattle.service_prompts.specs.service_tables.specs.Sent.{One, Sent}
use Rattle.service_events.specs.ItemCalls.{get_secret, delete_item, set_secret}
use Rattle.service_events.specs.KeyringCalls.{change_password}
use Rattle.service_prompts.specs.service_tables.specs.Limits.{most_connections, last_connection}
use Rattle.service_events.specs.Plan.{KeyTerms, Questions, Plan, refused}
use Rattle.service_events.specs.PromptCalls.{call_prompt, dismiss}
use Rattle.service_events.specs.PropertyCalls.{get, get_all, set_attributes, set_collection_label, set_item_label}
use Rattle.service_events.specs.Run.{Ran, ran, AreFatesOf}
use Rattle.service_events.specs.ServiceCalls.{open_session, create_collection, search_items, unlock, lock, get_secrets}
use Rattle.service_events.specs.SessionCalls.{ping, close_session}
use Rattle.service_prompts.specs.service_tables.specs.State.{State}

-- the state with other rows of connections
abbrev pub with_rows : List ConnRow → State → State
with_rows rows state = record state { connections = record state.connections { rows = rows } }

-- the table of calls: one row for each. A prompt that creates a collection, or changes a password, keeps the salt that comes with the request.
abbrev pub row_of : List ℕ → Call → Questions → Plan
row_of salt call.Ping asked = ping asked
row_of salt (call.OpenSession algorithm) asked = open_session algorithm asked
row_of salt (call.CloseSession session) asked = close_session session asked
row_of salt (call.CreateCollection label alias) asked = create_collection label alias salt asked
row_of salt (call.SearchItems wanted) asked = search_items wanted asked
row_of salt (call.ReadAlias alias) asked = read_alias alias asked
row_of salt (call.SetAlias alias object) asked = set_alias alias object asked
row_of salt (call.Unlock objects) asked = unlock objects asked
row_of salt (call.Lock objects) asked = lock objects asked
row_of salt (call.GetSecrets items session) asked = get_secrets items session asked
row_of salt (call.SearchCollection collection wanted) asked = search_collection collection wanted asked
row_of salt (call.CreateItem collection label attributes secret replace) asked =
    create_item collection (Add_item label attributes secret.content replace) secret.session secret.content asked
row_of salt (call.DeleteCollection collection) asked = delete_collection collection asked
row_of salt (call.ChangePassword collection) asked = change_password collection salt asked
row_of salt (call.DeleteItem stem item) asked = delete_item stem item asked
row_of salt (call.GetSecret stem item session) asked = get_secret stem item session asked
row_of salt (call.SetSecret stem item secret) asked = set_secret stem item secret.session secret.content asked
row_of salt (call.Get object property) asked = get object property asked
row_of salt (call.GetAll object properties) asked = get_all object properties asked
row_of salt (call.SetCollectionLabel collection label) asked = set_collection_label collection label asked
row_of salt (call.SetItemLabel stem item label) asked = set_item_label stem item label asked
row_of salt (call.SetAttributes stem item attributes) asked = set_attributes stem item attributes asked
row_of salt (call.Prompt prompt) asked = call_prompt prompt asked
row_of salt (call.Dismiss prompt) asked = dismiss prompt asked
row_of salt call.Register asked = register asked
row_of salt call.Unregister asked = unregister asked
row_of salt (call.Answer prompt round password) asked = answer_prompt prompt round asked
row_of salt (call.Refuse prompt round) asked = refuse prompt round asked

-- a call's row; the fault of a message is answered first
abbrev pub plan_of : List ℕ → Result Call CallFault → Questions → Plan
plan_of salt (Ok call) asked = row_of salt call asked
plan_of salt (Err fault) asked = refused (error_of fault)

-- the message that answers a call
abbrev pub message_of : Serial → Result Body ErrorName → Out
message_of serial (Ok body) = out.Return serial body
message_of serial (Err name) = out.Error serial name

-- what answers a request: nothing where no reply is wanted
abbrev pub replies : ConnId → Request → Result Body ErrorName → List Sent
replies caller request answer =
    if request.wants_reply
    then record { to = One caller; out = message_of request.serial answer } ∷ []
    else []

-- the value of the secret that a call brings, which no row sees
abbrev pub value_in : Result Call CallFault → List ℕ
value_in (Ok (call.CreateItem collection label attributes secret replace)) = secret.value
value_in (Ok (call.SetSecret stem item secret)) = secret.value
value_in _ = []

-- what a call brings that came at this moment
abbrev pub brought_with : ℕ → Result Call CallFault → Brought
brought_with now given = record { now = now; value = value_in given }

-- what a request brings besides its call
abbrev pub brought_by : Arrival → Brought
brought_by arrival = brought_with arrival.now arrival.request.call

-- what a request leads to, in a state, with how each storing ended that it asked for
abbrev pub served : Recorded → State → Ran
served came state = ran came.arrival.conn (brought_by came.arrival) (plan_of came.arrival.salt came.arrival.request.call) came.fates state

-- ---- the work of an answer

-- the terms of the key of a new password: the salt that its prompt keeps
abbrev pub new_terms : List ℕ → KeyTerms
new_terms salt = record { salt = salt; iterations = new_iterations }

-- the terms of the key of a collection's file, which its clear part has
abbrev pub file_terms : CollectionRow → KeyTerms
file_terms row = record { salt = row.clear.salt; iterations = row.clear.iterations }

-- the terms of the key for what a prompt is asked for
abbrev pub terms_for : Rows → PromptKind → Option KeyTerms
terms_for rows (kind.Unlock targets) = option_and_then (λ (target : Target). option_map file_terms (value_at target.stem rows)) (first_left targets)
terms_for rows (kind.Create label alias salt) = Some (new_terms salt)
terms_for rows (kind.Change stem salt) = Some (new_terms salt)

-- the same for a prompt, if it is there
abbrev pub row_terms : Rows → Option PromptRow → Option KeyTerms
row_terms rows None = None
row_terms rows (Some row) = terms_for rows row.kind

-- a key that is to be derived with these terms
abbrev pub work_with : PromptId → ℕ → List ℕ → KeyTerms → Work
work_with prompt round password terms = record {
  prompt = prompt;
  round = round;
  salt = terms.salt;
  iterations = terms.iterations;
  password = password;
}

-- the work for a prompt, if its key is being derived in this round
abbrev pub prompt_work : PromptId → ℕ → List ℕ → Rows → Option PromptRow → Option Work
prompt_work prompt round password rows row = if derives_in round row then option_map (work_with prompt round password) (row_terms rows row) else None

-- the work that an answer gives, by its reply and the state that it led to: none if it was refused, or no key is to be derived
abbrev pub answer_work : Option PromptId → ℕ → List ℕ → Result Body ErrorName → State → Option Work
answer_work None round password reply state = None
answer_work (Some prompt) round password (Err name) state = None
answer_work (Some prompt) round password (Ok body) state = prompt_work prompt round password state.collections (row_at prompt state.prompts)

-- the work that a request gives: that of an answer
abbrev pub work_of : Result Call CallFault → Result Body ErrorName → State → Option Work
work_of (Ok (call.Answer prompt round password)) reply state = answer_work prompt round password reply state
work_of _ reply state = None

-- the password that a request brings, if it is an answer
abbrev pub password_in : Result Call CallFault → Option (List ℕ)
password_in (Ok (call.Answer prompt round password)) = Some password
password_in _ = None

-- ---- what an event leads to

-- what a derived key brings: its moment, and the password, which no row sees
abbrev pub brought_derived : Derivation → Brought
brought_derived came = record { now = came.now; value = came.password }

-- the terms of a derived key
abbrev pub terms_of : Derivation → KeyTerms
terms_of came = record { salt = came.salt; iterations = came.iterations }

-- what a derived key leads to, in a state, with how each storing and each resolve ended that it asked for
abbrev pub finished : Derivation → State → Ran
finished came state = ran came.conn (brought_derived came) (derived came.prompt came.round (terms_of came)) came.fates state

-- what a request puts out: its reply, and then what its changes send
abbrev pub put_out : ConnId → Request → Ran → List Sent
put_out caller request ran = replies caller request ran.answer ++ ran.sends

-- what an event puts out
abbrev pub puts_out : State → Event → List Sent
puts_out state (event.Connect conn) = []
puts_out state (event.Arrive came) = put_out came.arrival.conn came.arrival.request (served came state)
puts_out state (event.Derived came) = (finished came state).sends
puts_out state (event.Leave conn) = []
puts_out state (event.Take conn) = []
puts_out state (event.Gone conn) = []

-- the state with outputs delivered
abbrev pub with_delivered : List Sent → State → State
with_delivered sent state = with_rows (delivered sent state.connections.rows) state

-- the state after a request
abbrev pub arrived : Recorded → State → State
arrived came state = with_delivered (put_out came.arrival.conn came.arrival.request (served came state)) (served came state).state

-- the state after an event
abbrev pub step : State → Event → State
step state (event.Connect conn) = record state { connections = joined conn state.connections }
step state (event.Arrive came) = arrived came state
step state (event.Derived came) = with_delivered (finished came state).sends (finished came state).state
step state (event.Leave conn) = with_rows (changed conn left state.connections.rows) state
step state (event.Take conn) = with_rows (changed conn emptied state.connections.rows) state
step state (event.Gone conn) = with_rows (without conn state.connections.rows) (record state {
  sessions = abandoned conn state.sessions;
  prompts = prompts.abandoned conn state.prompts;
})

-- what an event answers
abbrev pub output_of : State → Event → Output
output_of state (event.Connect conn) = output.Joined conn
output_of state (event.Arrive came) = output.Arrived (record {
  work = work_of came.arrival.request.call (served came state).answer (served came state).state;
})
output_of state (event.Derived came) = output.Derived
output_of state (event.Leave conn) = output.Left
output_of state (event.Take conn) = output.Taken (waiting_for conn state.connections.rows)
output_of state (event.Gone conn) = output.Gone

-- the connection isn't there
abbrev pub IsMissing : ConnId → State → Type 0
IsMissing conn state = has conn state.connections.rows ≡ false

-- no further connection can join: as many are there as may be, or no number is left
abbrev pub IsCrowded : State → Type 0
IsCrowded state = (most_connections ≤ length state.connections.rows) ⊎ (last_connection ≤ state.connections.next)

-- a further connection can join
abbrev pub CanJoin : State → Type 0
CanJoin state = (length state.connections.rows < most_connections) × (state.connections.next < last_connection)

-- an alias that is given has its type
abbrev pub IsTypedName : Option (List ℕ) → Type 0
IsTypedName None = Unit {0}
IsTypedName (Some alias) = IsTypedAlias alias

-- the arguments of a call have their types
abbrev pub HasTypes : Result Call CallFault → Type 0
HasTypes (Ok (call.CreateItem collection label attributes secret replace)) = AreItemTypes label attributes × AreSecretTypes secret.value secret.content
HasTypes (Ok (call.SetSecret stem item secret)) = AreSecretTypes secret.value secret.content
HasTypes (Ok (call.SetCollectionLabel collection label)) = IsTypedText label
HasTypes (Ok (call.SetItemLabel stem item label)) = IsTypedText label
HasTypes (Ok (call.SetAttributes stem item attributes)) = AreAttributeTypes attributes
HasTypes (Ok (call.CreateCollection label alias)) = IsTypedText label × IsTypedName alias
HasTypes (Ok (call.SetAlias alias object)) = IsTypedAlias alias
HasTypes (Ok (call.Answer prompt round password)) = IsBytes password
HasTypes _ = Unit {0}

-- the random bytes that come with a request: 8 of them
pub record IsSalt (salt : List ℕ) : Type 0 where
  pub eight : length salt ≡ 8
  pub bytes : IsBytes salt

-- A request can be recorded with these fates: its moment, its salt and the arguments of its call have their types, and there is one fate for
-- each storing and each resolve that it asks for.
pub record FitsRequest (came : Recorded) (state : State) : Type 0 where
  pub moment : came.arrival.now < 2 ^ 64
  pub salt : IsSalt came.arrival.salt
  pub types : HasTypes came.arrival.request.call
  pub fates : AreFatesOf came.arrival.conn (brought_by came.arrival) (plan_of came.arrival.salt came.arrival.request.call) came.fates state

-- the images that are known of a file consist of bytes
abbrev pub AreByteImages : File → Type 0
AreByteImages file = IfSome (old_image file) IsBytes × IfSome (new_image file) IsBytes

-- the same for the file of each collection
abbrev pub AreByteFiles : Rows → Type 0
AreByteFiles rows = AllByRecursion (λ (row : List ℕ × CollectionRow). AreByteImages row.1.file) rows

-- A derived key can be recorded with these fates: its moment, its round, its password, its salt, its iterations and the files that it may
-- open have their types, and there is one fate for each storing and each resolve that it asks for.
pub record FitsDerivation (came : Derivation) (state : State) : Type 0 where
  pub moment : came.now < 2 ^ 64
  pub round : came.round < 2 ^ 64
  pub password : IsBytes came.password
  pub salt : IsSalt came.salt
  pub iterations : came.iterations < 2 ^ 32
  pub files : AreByteFiles state.collections
  pub fates : AreFatesOf came.conn (brought_derived came) (derived came.prompt came.round (terms_of came)) came.fates state

-- what a call leads to depends on the moment at which it came: it may store the moment
abbrev pub TakesMoment : Result Call CallFault → Type 0
TakesMoment (Ok (call.CreateItem collection label attributes secret replace)) = Unit {0}
TakesMoment (Ok (call.DeleteItem stem item)) = Unit {0}
TakesMoment (Ok (call.SetSecret stem item secret)) = Unit {0}
TakesMoment (Ok (call.SetCollectionLabel collection label)) = Unit {0}
TakesMoment (Ok (call.SetItemLabel stem item label)) = Unit {0}
TakesMoment (Ok (call.SetAttributes stem item attributes)) = Unit {0}
TakesMoment _ = ⊥

-- what a call leads to depends on its salt: a prompt keeps it
abbrev pub TakesSalt : Result Call CallFault → Type 0
TakesSalt (Ok (call.CreateCollection label alias)) = Unit {0}
TakesSalt (Ok (call.ChangePassword collection)) = Unit {0}
TakesSalt _ = ⊥

-- Two requests that differ in nothing on which their steps depend, except in how each storing ends.
pub record AreAlike (one other : Arrival) : Type 0 where
  pub conn : one.conn ≡ other.conn
  pub call : one.request.call ≡ other.request.call
  pub serial : one.request.serial ≡ other.request.serial
  pub wants_reply : one.request.wants_reply ≡ other.request.wants_reply
  pub moment : TakesMoment one.request.call → one.now ≡ other.now
  pub salt : TakesSalt one.request.call → one.salt ≡ other.salt

-- the event can happen in the state
abbrev pub Fits : State → Event → Type 0
Fits state (event.Connect conn) = (conn.0 ≡ state.connections.next) × (length state.connections.rows < most_connections) × (state.connections.next < last_connection)
Fits state (event.Arrive came) = IsTrue (has came.arrival.conn state.connections.rows) × FitsRequest came state
Fits state (event.Derived came) = IsTrue (has came.conn state.connections.rows) × FitsDerivation came state
Fits state (event.Leave conn) = IsSomeAnd (desk_of conn state.connections.rows) (λ desk. desk.leaving ≡ false)
Fits state (event.Take conn) = IsSomeAnd (desk_of conn state.connections.rows) (λ desk. desk.waits ≡ true)
Fits state (event.Gone conn) = IsTrue (has conn state.connections.rows)
