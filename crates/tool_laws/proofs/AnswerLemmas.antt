-- What a call returns and makes of the collections, unless it is refused, by the ends of its plan.
use Rattle.std.proofs.Common.{◌≡◌, ℕ, Bool, true, false, cond, List, [], ◌∷◌, ◌++◌, Option, Some, None, Result, Ok, Err, refl, sym, ap, subst, ◌∙◌}
use Rattle.std.specs.List.{AllByRecursion}
use Rattle.std.proofs.lemmas.Option.{same_Some}
use Rattle.kr_base.specs.declared.ids.ConnId.{ConnId}
use Rattle.client_core.specs.declared.reply.Reply.{Reply}
use Rattle.client_core.specs.declared.reply.Reply.TheVariants as reply
use Rattle.service_events.specs.collection_store.specs.declared.change.Changed.{Changed}
use Rattle.service_events.specs.secret_calls.specs.declared.call.Call.{Call}
use Rattle.service_events.specs.secret_calls.specs.declared.call.CallFault.{CallFault}
use Rattle.service_events.specs.secret_calls.specs.declared.out.Body.{Body}
use Rattle.service_events.specs.secret_calls.specs.declared.out.ErrorName.{ErrorName}
use Rattle.service_events.specs.secret_calls.specs.declared.out.ErrorName.TheVariants as name
use Rattle.service_events.specs.secret_calls.specs.declared.out.Out.{Out}
use Rattle.service_events.specs.secret_calls.specs.declared.serial.Serial.{Serial}
use Rattle.service_events.specs.secret_calls.specs.Outs.{error_text}
use Rattle.service_events.specs.service_tables.specs.Opened.{Contents, contents_of}
use Rattle.service_events.specs.service_tables.specs.Sent.{One, Sent}
use Rattle.service_events.specs.service_tables.specs.State.{State}
use Rattle.service_events.specs.service_tables.specs.Storing.{Brought, Edit}
use Rattle.service_events.specs.service_tables.specs.declared.fate.Fate.{Fate}
use Rattle.service_events.specs.service_tables.specs.declared.fate.StoreFate.{StoreFate}
use Rattle.service_events.specs.service_tables.specs.declared.fate.StoreFate.TheVariants as stored
use Rattle.service_events.specs.declared.event.Event.{Event}
use Rattle.service_events.specs.declared.event.Event.TheVariants as event
use Rattle.service_events.specs.declared.event.Recorded.{Recorded}
use Rattle.service_events.specs.CollectionCalls.{by_fate, storing}
use Rattle.service_events.specs.Plan.{Returns, Gives, Refuses, Change, Gift, Plan, Store, answered, given, refused}
use Rattle.service_events.specs.PublicBody.{PublicBody, body_with}
use Rattle.service_events.specs.Replay.{replay}
use Rattle.service_events.specs.Run.{Ran, by_store, demanded, failing, performed_all, promised, ran, run, sending, sent_asked, with_gift}
use Rattle.service_events.specs.Step.{brought_with, message_of, plan_of, served, step}
use Rattle.service_events.proofs.EndLemmas.{ends-either}
use Rattle.service_events.proofs.RunLemmas.{fits-either, store-either}
use Rattle.tool_laws.specs.Conversations.{Answered, IsQuiet, read_in}

-- ---- the ends of a plan

-- an error isn't an answer with values
pub err-ok : (fault : ErrorName) (body : Body) → Err fault ≡ Ok body → ⊥
err-ok fault body e = cc

-- the values of an answer
abbrev pub body-or : Body → Result Body ErrorName → Body
body-or other (Ok body) = body
body-or other (Err fault) = other

-- an answer with values
abbrev pub fine : Body → Result Body ErrorName
fine body = Ok body

pub ok-same : (one other : Body) → fine one ≡ fine other → one ≡ other
ok-same one other e = ap (body-or one) e

-- if the run answers with values, this is true of them and of the collections and the aliases after it
abbrev pub Leads : (Body → Contents → Type 0) → Ran → Type 0
Leads Is ran = (body : Body) → ran.answer ≡ Ok body → Is body (contents_of ran.state)

module _ (Is : Body → Contents → Type 0) (caller : ConnId) (brought : Brought) (fates : List Fate) (state : State) where
  -- the same of what a plan leads to
  abbrev pub PlanLeads : Plan → Type 0
  PlanLeads plan = Leads Is (run caller brought plan fates state)

  pub leads-refused : (fault : ErrorName) → PlanLeads (refused fault)
  leads-refused fault =
      ends-either (Leads Is) caller brought (Refuses fault) [] fates state (λ body is. absurd (err-ok fault body is)) (λ body is. absurd (err-ok name.LimitsExceeded body is))

  pub leads-answered : (shown : PublicBody) (changes : List Change) → Is (body_with shown) (contents_of (performed_all caller changes state)) → PlanLeads (answered shown changes)
  leads-answered shown changes its =
      ends-either (Leads Is) caller brought (Returns shown) changes fates state
      (λ body is. subst (λ (b : Body). Is b (contents_of (performed_all caller changes state))) (ok-same (body_with shown) body is) its)
      (λ body is. absurd (err-ok name.LimitsExceeded body is))

  pub leads-given : (gift : Gift) → ((body : Body) → with_gift caller state gift ≡ Ok body → Is body (contents_of state)) → PlanLeads (given gift)
  leads-given gift its = ends-either (Leads Is) caller brought (Gives gift) [] fates state its (λ body is. absurd (err-ok name.LimitsExceeded body is))

  pub leads-if : (b : Bool) (one other : Plan) → (b ≡ true → PlanLeads one) → PlanLeads other → PlanLeads (cond b one other)
  leads-if true one other first second = first refl
  leads-if false one other first second = second

  -- what an edit leads to by how it ended, once it was to be stored
  abbrev ran-by : List ℕ → Edit → PublicBody → StoreFate → List Fate → Ran
  ran-by stem edit shown ended rest = sending (sent_asked brought (Store stem edit) ended state) (run caller brought (by_fate shown ended) rest (demanded brought (Store stem edit) ended state))

  ended-by : (stem : List ℕ) (edit : Edit) (shown : PublicBody) → Is (body_with shown) (contents_of (demanded brought (Store stem edit) stored.Stored state))
      → (ended : StoreFate) (rest : List Fate) → Leads Is (ran-by stem edit shown ended rest)
  ended-by stem edit shown its stored.Stored rest =
      let next = demanded brought (Store stem edit) stored.Stored state in
      ends-either (λ ran. Leads Is (sending (sent_asked brought (Store stem edit) stored.Stored state) ran)) caller brought (Returns shown) [] rest next
      (λ body is. subst (λ (b : Body). Is b (contents_of next)) (ok-same (body_with shown) body is) its) (λ body is. absurd (err-ok name.LimitsExceeded body is))
  ended-by stem edit shown its stored.Before rest =
      ends-either (λ ran. Leads Is (sending (sent_asked brought (Store stem edit) stored.Before state) ran)) caller brought (Refuses name.IOError) [] rest (demanded brought (Store stem edit) stored.Before state)
      (λ body is. absurd (err-ok name.IOError body is)) (λ body is. absurd (err-ok name.LimitsExceeded body is))
  ended-by stem edit shown its stored.Unsure rest =
      ends-either (λ ran. Leads Is (sending (sent_asked brought (Store stem edit) stored.Unsure state) ran)) caller brought (Refuses name.IOError) [] rest (demanded brought (Store stem edit) stored.Unsure state)
      (λ body is. absurd (err-ok name.IOError body is)) (λ body is. absurd (err-ok name.LimitsExceeded body is))

  -- an edit that is stored, if it can be
  pub leads-stored : (stem : List ℕ) (edit : Edit) (returned : Changed → PublicBody) (answer : Option Changed)
      → ((it : Changed) → answer ≡ Some it → Is (body_with (returned it)) (contents_of (demanded brought (Store stem edit) stored.Stored state)))
      → PlanLeads (storing stem edit returned answer)
  leads-stored stem edit returned None its = leads-refused name.LimitsExceeded
  leads-stored stem edit returned (Some it) its =
      let fails : (fault : ErrorName) → Leads Is (failing fault state) = λ fault body is. absurd (err-ok fault body is) in
      fits-either (Leads Is) (promised caller state (by_fate (returned it) stored.Stored)) (by_store (failing name.IOError state) (ran-by stem edit (returned it)) fates) (failing name.LimitsExceeded state)
      (λ small. store-either (Leads Is) (failing name.IOError state) (ran-by stem edit (returned it)) fates (fails name.IOError) (ended-by stem edit (returned it) (its it refl))) (fails name.LimitsExceeded)

-- ---- a reply

-- what is read of an answer
abbrev reply-with : Result Body ErrorName → Reply
reply-with (Ok body) = reply.Return body
reply-with (Err fault) = reply.Error (error_text fault)

read-message : (serial : Serial) (answer : Result Body ErrorName) → read_in (message_of serial answer) ≡ Some (reply-with answer)
read-message serial (Ok body) = refl
read-message serial (Err fault) = refl

-- the values of a reply
abbrev returned-or : Body → Reply → Body
returned-or other (reply.Return body) = body
returned-or other (reply.Error text) = other

-- a return is that of an answer that is no error
returned-ok : (given : Body) (answer : Result Body ErrorName) → reply-with answer ≡ reply.Return given → answer ≡ Ok given
returned-ok given (Ok other) e = ap fine (ap (returned-or given) e)
returned-ok given (Err fault) e = let same : reply.Error (error_text fault) ≡ reply.Return given = e in cc

-- the first message
abbrev first-out : List Sent → Option Out
first-out [] = None
first-out (one ∷ more) = Some one.out

-- the first message that is put out for a request that wants a reply is that of its answer
first-answer : (caller : ConnId) (serial : Serial) (wanted : Bool) (answer : Result Body ErrorName) (sends : List Sent) (message : Out) → wanted ≡ true
    → first-out (cond wanted (record { to = One caller; out = message_of serial answer } ∷ []) [] ++ sends) ≡ Some message → message_of serial answer ≡ message
first-answer caller serial true answer sends message is e = same_Some (message_of serial answer) message e
first-answer caller serial false answer sends message is e = absurd (let its : false ≡ true = is in cc)

-- the answer of a call that returned
answer-of : (caller : ConnId) (state next : State) (it : Call) (given : Body) (got : Answered caller state it (reply.Return given) next) → (served got.came state).answer ≡ Ok given
answer-of caller state next it given got =
    let request = got.came.arrival.request in
    let answer = (served got.came state).answer in
    let message : message_of request.serial answer ≡ got.message =
    first-answer got.came.arrival.conn request.serial request.wants_reply answer (served got.came state).sends got.message got.wants (ap first-out got.sent) in
    returned-ok given answer (same_Some (reply-with answer) (reply.Return given) (sym (read-message request.serial answer) ∙ ap read_in message ∙ got.read))

-- ---- the collections and the aliases after it

-- a quiet event keeps them
quiet-step : (state : State) (it : Event) → IsQuiet it → contents_of (step state it) ≡ contents_of state
quiet-step state (event.Connect conn) is = refl
quiet-step state (event.Arrive came) is = absurd is
quiet-step state (event.Derived came) is = absurd is
quiet-step state (event.Leave conn) is = refl
quiet-step state (event.Take conn) is = refl
quiet-step state (event.Gone conn) is = refl

quiet-replay : (state : State) (events : List Event) → AllByRecursion IsQuiet events → contents_of (replay state events) ≡ contents_of state
quiet-replay state [] are = refl
quiet-replay state (it ∷ events) are = quiet-replay (step state it) events are.1 ∙ quiet-step state it are.0

-- what a request leads to if this is its call
abbrev serves : Recorded → State → Result Call CallFault → Ran
serves came state it = ran came.arrival.conn (brought_with came.arrival.now it) (plan_of came.arrival.salt it) came.fates state

-- what is true of a call that returned, and of the collections and the aliases before the next call, by what its plan leads to
pub answered-with : (Is : Body → Contents → Type 0) (caller : ConnId) (state next : State) (it : Call) (given : Body) → Answered caller state it (reply.Return given) next
    → ((conn : ConnId) (salt : List ℕ) (now : ℕ) (fates : List Fate) → Leads Is (ran conn (brought_with now (Ok it)) (plan_of salt (Ok it)) fates state)) → Is given (contents_of next)
answered-with Is caller state next it given got leads =
    let came = got.came in
    let its : Leads Is (served came state) =
    subst (λ (call : Result Call CallFault). Leads Is (serves came state call)) (sym got.asks) (leads came.arrival.conn came.arrival.salt came.arrival.now came.fates) in
    let same : contents_of next ≡ contents_of (served came state).state =
    ap (λ (s : State). contents_of s) got.after ∙ quiet-replay (step state (event.Arrive came)) got.quiet got.are_quiet in
    subst (λ (c : Contents). Is given c) (sym same) (its given (answer-of caller state next it given got))
