-- What the counts over the replies to a load are.
use Rattle.std.proofs.Common.{◌≡◌, ℕ, suc, ◌*◌, ◌≤◌, ◌==◌, Bool, true, false, cond, List, [], ◌∷◌, ◌++◌, filter, length, Option, Some, None, refl, sym, ap, ◌∙◌, subst, arith, length-append}
use Rattle.kr_base.specs.declared.ids.ConnId.{ConnId}
use Rattle.dbus_framing.specs.Messages.{Parts}
use Rattle.dbus_framing.specs.Streams.{AreMessages, is_kept, joined}
use Rattle.dbus_framing.proofs.Cuts.{one_stream}
use Rattle.connection_worker.specs.service_events.specs.secret_calls.specs.declared.call.Call.{Call}
use Rattle.connection_worker.specs.service_events.specs.secret_calls.specs.declared.call.Request.{Request}
use Rattle.connection_worker.specs.service_events.specs.secret_calls.specs.declared.out.Out.{Out}
use Rattle.connection_worker.specs.service_events.specs.secret_calls.specs.declared.work.Work.{Work}
use Rattle.connection_worker.specs.service_events.specs.service_tables.specs.Opened.{Contents}
use Rattle.connection_worker.specs.service_events.specs.service_tables.specs.Sound.{AreSoundContents}
use Rattle.connection_worker.specs.service_events.specs.service_tables.specs.State.{State}
use Rattle.connection_worker.specs.service_events.specs.declared.event.Event.TheVariants as event
use Rattle.connection_worker.specs.service_events.specs.Replay.{replay, Legal}
use Rattle.connection_worker.specs.service_events.specs.Step.{step}
use Rattle.connection_worker.specs.service_events.specs.Single.{AllFaultless, AllFinished, AreFinished, TimedKey, TimedRequest, arrival, asking, derivation, finishing, is_owed, requests_of, taking, turn, turns, work_for}
use Rattle.connection_worker.specs.Arrivals.{AreRequests, FirstRequests, calls_in}
use Rattle.connection_worker.specs.Replies.{is_reply, outputs_to, replies_to}
use Rattle.connection_worker.specs.Written.{spelled_behind}
use Rattle.load_plan.specs.declared.counts.Counts.{Counts}
use Rattle.load_plan.specs.Counts.{none}
use Rattle.load_plan.specs.Plan.{plan}
use Rattle.load_plan.specs.Answered.{CountsMessages, most_bytes, with_messages}
use Rattle.load_laws.specs.Requests.{AreAsked, AreFirstAsked, the_connection}
use Rattle.load_laws.specs.Outputs.{Counted, all_counted, started}
use Rattle.load_laws.proofs.StreamLemmas.{ReadsReturns, SendsMessages, outputs-counted, outputs-go, outputs-stream, replies-counted}
use Rattle.load_laws.proofs.FitLemmas.{ShortFit, load-fit}
use Rattle.load_laws.proofs.WholeLemmas.{load-counts, sound-started}

-- the replies among the outputs
abbrev pub HasReplies : Type 0
HasReplies = (asked : List TimedRequest) (conn : ConnId) (state : State) → filter is_reply (outputs_to conn state asked) ≡ replies_to conn state asked

-- all requests are the first ones, too
first-asked : (serial : ℕ) (calls : List Call) (asked : List TimedRequest) → AreAsked serial calls asked → AreFirstAsked serial calls asked
first-asked serial [] [] are = tt
first-asked serial [] (a ∷ more) are = absurd are
first-asked serial (it ∷ calls) [] are = tt
first-asked serial (it ∷ calls) (a ∷ more) are = (are.0, first-asked (suc serial) calls more are.1)

finished-first : (conn : ConnId) (asked : List TimedRequest) (state : State) → AllFinished conn state asked → AreFinished conn state asked
finished-first conn [] state is = tt
finished-first conn (a ∷ []) state is = λ its. sym is.0 ∙ its
finished-first conn (a ∷ next ∷ more) state is = (is.0, finished-first conn (next ∷ more) (replay state (turn conn state a)) is.1)

-- all items were made, found and read
pub counts-all : ReadsReturns → SendsMessages → HasReplies → ShortFit → (items seed : ℕ) (contents : Contents) (asked : List TimedRequest) (counts : Counts) → items ≤ 1000 → AreSoundContents contents → contents.collections ≡ [] → contents.used ≡ []
    → AreAsked 1 (plan items seed) asked → Legal (started contents) (turns the_connection (started contents) asked) → AllFaultless asked → AllFinished the_connection (started contents) asked
    → CountsMessages seed (plan items seed) (spelled_behind 0 (outputs_to the_connection (started contents) asked)) counts → counts ≡ all_counted items
counts-all reads sends among fit items seed contents asked counts few sound empty unused are legal faultless finished is =
    let state = started contents in
    let outs = outputs_to the_connection state asked in
    let together = load-fit fit items seed contents asked few sound empty unused (first-asked 1 (plan items seed) asked are) legal faultless (finished-first the_connection asked state finished) in
    let go = outputs-go the_connection asked state (sound-started contents sound) legal together in
    let same = (one_stream most_bytes (spelled_behind 0 outs) is.rest [] is.messages _ is.stream (outputs-stream sends outs 0 go)).0 in
    let replies = load-counts items seed contents asked few empty unused are legal faultless finished in
    let counted = replies-counted seed (plan items seed) (all_counted items) outs none (subst (λ (l : List Out). Counted seed (plan items seed) none l (all_counted items)) (sym (among asked the_connection state)) replies) in
    is.counts_are ∙ ap (λ (m : List Parts). with_messages seed (plan items seed) none m) same ∙ outputs-counted reads seed (plan items seed) (all_counted items) outs 0 none go counted

-- ---- how many events there are

-- messages are not more than bytes
few-spellings : (most : ℕ) (spellings : List (List ℕ)) (spelled : List Parts) → AreMessages most spellings spelled → length spelled ≤ length (joined spellings)
few-spellings most [] [] each = omega arith
few-spellings most [] (parts ∷ spelled) each = absurd each
few-spellings most (spelling ∷ spellings) [] each = absurd each
few-spellings most (spelling ∷ spellings) (parts ∷ spelled) each = omega (arith, each.0.begun, few-spellings most spellings spelled each.1, length-append spelling (joined spellings))

few-filter : {A : Type 0} (p : A → Bool) (xs : List A) → length (filter p xs) ≤ length xs
few-filter p [] = omega arith
few-filter p (x ∷ xs) =
    let rest = few-filter p xs in
    let pass : (b : Bool) → length (cond b (x ∷ filter p xs) (filter p xs)) ≤ length (x ∷ xs) = elim [ true ↦ omega (arith, rest) | false ↦ omega (arith, rest) ] in
    pass (p x)

as-many : (calls : List Parts) (requests : List Request) → AreRequests calls requests → length requests ≡ length calls
as-many [] [] are = refl
as-many [] (request ∷ requests) are = absurd are
as-many (parts ∷ calls) [] are = absurd are
as-many (parts ∷ calls) (request ∷ requests) are = let rest = as-many calls requests are.1 in omega (arith, rest)

same-many : (asked : List TimedRequest) → length (requests_of asked) ≡ length asked
same-many [] = refl
same-many (a ∷ more) = let rest = same-many more in omega (arith, rest)

-- nor are the requests of the first messages
pub few-first : (most : ℕ) (bytes : List ℕ) (asked : List TimedRequest) → FirstRequests most bytes (requests_of asked) → length asked ≤ length bytes
few-first most bytes asked first =
    let cut = first.cut in
    let whole = ap (λ (l : List ℕ). length l) cut.parted in
    let kept = ap (λ (l : List Parts). length l) cut.kept in
    omega (
      arith,
      whole,
      kept,
      few-spellings most cut.spellings cut.spelled cut.each,
      few-filter is_kept cut.spelled,
      few-filter (λ (parts : Parts). parts.kind == 1) first.messages,
      as-many (calls_in first.messages) (requests_of asked ++ first.more) first.are,
      length-append (requests_of asked) first.more,
      same-many asked,
      length-append (joined cut.spellings) first.rest,
    )

taken-few : (conn : ConnId) (state : State) → length (taking conn state) ≤ 1
taken-few conn state =
    let pass : (b : Bool) → length (cond b (event.Take conn ∷ []) []) ≤ 1 = elim [ true ↦ omega arith | false ↦ omega arith ] in
    pass (is_owed conn state)

finished-few : (conn : ConnId) (state : State) (work : Option Work) (key : Option TimedKey) → length (finishing conn state work key) ≤ 2
finished-few conn state None key = omega arith
finished-few conn state (Some work) None = omega arith
finished-few conn state (Some work) (Some key) = omega (arith, taken-few conn (step state (derivation conn work key)))

-- a request has at most four events
pub few-turns : (conn : ConnId) (asked : List TimedRequest) (state : State) → length (turns conn state asked) ≤ 4 * length asked
few-turns conn [] state = omega arith
few-turns conn (a ∷ more) state =
    let asks = asking conn state a in
    let here = replay state asks in
    let ends = finishing conn here (work_for conn state a) a.key in
    let next = replay state (turn conn state a) in
    omega (
      arith,
      length-append (turn conn state a) (turns conn next more),
      length-append asks ends,
      taken-few conn (step state (arrival conn a)),
      finished-few conn here (work_for conn state a) a.key,
      few-turns conn more next,
    )
