-- What requests give is their outputs, if these can wait together; and the replies are one to each request that wants one, even if signals are lost.
use Rattle.std.proofs.Common.{◌≡◌, ℕ, ◌+◌, ◌≤◌, Bool, true, false, cond, IsTrue, List, [], ◌∷◌, ◌++◌, filter, length, Option, Some, None, refl, sym, ◌∙◌, ap, subst, arith, append-nil}
use Rattle.std.proofs.lemmas.Bool.{le-leb, lt-ltb}
use Rattle.std.proofs.lemmas.List.Elements.{filter-append}
use Rattle.std.proofs.lemmas.List.Sums.{sum_by-cons}
use Rattle.std.specs.Option.{is_some}
use Rattle.kr_base.specs.declared.ids.ConnId.{ConnId}
use Rattle.service_desk.specs.secret_calls.specs.Outs.{most_waiting}
use Rattle.service_desk.specs.secret_calls.specs.declared.out.Out.{Out}
use Rattle.service_desk.specs.secret_calls.specs.declared.work.Work.{Work}
use Rattle.service_desk.specs.service_events.specs.declared.event.Event.{Event}
use Rattle.service_desk.specs.service_events.specs.declared.event.Event.TheVariants as event
use Rattle.service_desk.specs.service_tables.specs.State.{State}
use Rattle.service_desk.specs.service_tables.specs.Connections.{delivered, given_out, sent_to, size_of, size_waiting, waiting_for, with_out}
use Rattle.service_desk.specs.service_tables.specs.Sent.{One, Sent}
use Rattle.service_desk.specs.service_tables.specs.signal_fanout.specs.declared.rows.ConnRow.{ConnRow}
use Rattle.service_desk.specs.service_events.specs.Step.{message_of, put_out, served, step, Fits}
use Rattle.service_desk.specs.service_events.specs.Replay.{replay, Legal}
use Rattle.service_desk.specs.service_events.proofs.AloneLemmas.{arrived-connections}
use Rattle.service_desk.specs.service_events.proofs.ReplayLemmas.{replay-append}
use Rattle.service_desk.specs.service_events.proofs.SmallLemmas.{reply-small}
use Rattle.service_desk.specs.Places.{Told, Place}
use Rattle.service_desk.proofs.RecordLemmas.{own-own, own-answered, own-events, own-length, faultless-own}
use Rattle.connection_worker.specs.Fitting.{CanWaitTogether, FitBefore, FitTogether, FitsBefore, KeyFits, RequestFits}
use Rattle.connection_worker.specs.Replies.{asked_outputs, is_reply, key_outputs, outputs_of, outputs_to, reply_to, replies_to}
use Rattle.connection_worker.specs.Serving.{IsDue, IsOwed, owed, HasGiven}
use Rattle.service_desk.specs.service_events.specs.Single.{TimedKey, TimedRequest, recorded_of, arrival, asking, derivation, finishing, taking, turn, turns, single, work_for}
use Rattle.connection_worker.specs.Written.{given_by}
use Rattle.connection_worker.proofs.AnswerLemmas.{arrived-rows, derived-due, derived-rows, event-due, given-due, owed-all, put_to}
use Rattle.connection_worker.proofs.DeliveryLemmas.{IsDelivered, delivered-due, due_row, row-waits}
use Rattle.connection_worker.proofs.SentLemmas.{AreSignals, key-replies, message-replies, no-reply, ran-replies, served-signals}
use Rattle.connection_worker.proofs.RecordLemmas.{given_by-append, given-taking, taking-faultless}
use Rattle.connection_worker.proofs.ServingLemmas.{same, only-desk}

-- what waits may be taken
taking-legal : (told : Told) (outs : List Out) (lost : Bool) → IsDue told outs lost → Legal told.state (taking told.conn told.state)
taking-legal told [] lost is =
    let none : taking told.conn told.state ≡ [] = rw is.only (rw (same told.conn.0) refl) in
    rw none tt
taking-legal told (out ∷ outs) lost is =
    let some : taking told.conn told.state ≡ event.Take told.conn ∷ [] =
    rw is.only (rw (same told.conn.0) (ap (λ b. cond b (event.Take told.conn ∷ []) []) (lt-ltb 0 (length (out ∷ outs)) (omega arith)))) in
    rw some (rw (only-desk told (out ∷ outs) lost is) (lt-ltb 0 (length (out ∷ outs)) (omega arith)), tt)

-- once what waits was taken nothing does
due-taken : (mid : Told) (lost : Bool) → IsDue mid (owed mid) lost → IsDue (record mid { state = replay mid.state (taking mid.conn mid.state) }) [] lost
due-taken mid lost owes =
    let takes = taking mid.conn mid.state in
    let new : Told = record mid { state = replay mid.state takes; count = mid.count + length takes } in
    let before : Place = record { told = mid; has_seen = λ view. Unit {0} } in
    let after : Place = record { told = new; has_seen = λ view. Unit {0} } in
    let gives : HasGiven before after = record {
      alone = λ alone. own-own mid.state takes;
      faultless = λ steady. faultless-own mid.state takes (taking-faultless mid.conn mid.state);
      answered = own-answered mid.state takes (taking-legal mid (owed mid) lost owes);
      state = ap (replay mid.state) (sym (own-events mid.state takes));
      count = omega (arith, own-length mid.state takes);
      same = record { conn = refl; home = refl; alone = refl; steady = refl; waiting = refl };
      views = λ view seen. tt;
    } in
    let behind = given-due before after (owed mid) lost owes gives in
    record { sound = behind.sound; taken = behind.taken; only = behind.only }

-- the same place at another state
abbrev at : Told → State → Told
at told state = record told { state = state }

-- after a request whose outputs were taken nothing waits, and if they could wait together, none was lost
idle-asked : (told : Told) (a : TimedRequest) → IsOwed told [] → Fits told.state (arrival told.conn a) → RequestFits told.conn told.state a → IsOwed (at told (replay told.state (asking told.conn told.state a))) []
idle-asked told a idle fits small =
    let event = arrival told.conn a in
    let mid = at told (step told.state event) in
    let outs = asked_outputs told.conn told.state a in
    let due = event-due told mid event outs false idle.taken idle.sound fits (arrived-rows told.conn told.state a idle.taken idle.only small) refl refl in
    let behind = due-taken mid false (owed-all mid outs false due) in
    record { sound = behind.sound; taken = behind.taken; only = behind.only }

-- nor after its key
idle-finished : (told : Told) (work : Option Work) (key : Option TimedKey) → IsOwed told [] → Legal told.state (finishing told.conn told.state work key) → CanWaitTogether (key_outputs told.conn told.state work key)
    → IsOwed (at told (replay told.state (finishing told.conn told.state work key))) []
idle-finished told None key idle legal small = record { sound = idle.sound; taken = idle.taken; only = idle.only }
idle-finished told (Some work) None idle legal small = record { sound = idle.sound; taken = idle.taken; only = idle.only }
idle-finished told (Some work) (Some key) idle legal small =
    let event = derivation told.conn work key in
    let mid = at told (step told.state event) in
    let outs = put_to told.conn told.state event in
    let due = event-due told mid event outs false idle.taken idle.sound legal.0 (derived-rows told.conn told.state work key idle.taken idle.only small) refl refl in
    let behind = due-taken mid false (owed-all mid outs false due) in
    record { sound = behind.sound; taken = behind.taken; only = behind.only }

-- a list of events is legal only if its beginning and its rest are
legal-front : (state : State) (events more : List Event) → Legal state (events ++ more) → Legal state events
legal-front state [] more legal = tt
legal-front state (event ∷ events) more legal = (legal.0, legal-front (step state event) events more legal.1)

legal-behind : (state : State) (events more : List Event) → Legal state (events ++ more) → Legal (replay state events) more
legal-behind state [] more legal = legal
legal-behind state (event ∷ events) more legal = legal-behind (step state event) events more legal.1

-- the events of a request, and then those of its key, are legal
ends-legal : (conn : ConnId) (state : State) (a : TimedRequest) → Legal state (turn conn state a) → Legal (replay state (asking conn state a)) (finishing conn (replay state (asking conn state a)) (work_for conn state a) a.key)
ends-legal conn state a legal = legal-behind state (asking conn state a) (finishing conn (replay state (asking conn state a)) (work_for conn state a) a.key) legal

idle-turn : (told : Told) (a : TimedRequest) → IsOwed told [] → Legal told.state (turn told.conn told.state a) → RequestFits told.conn told.state a → KeyFits told.conn told.state a
    → IsOwed (at told (replay told.state (turn told.conn told.state a))) []
idle-turn told a idle legal small key =
    let asks = asking told.conn told.state a in
    let here = at told (replay told.state asks) in
    let ends = finishing told.conn here.state (work_for told.conn told.state a) a.key in
    let behind = idle-finished here (work_for told.conn told.state a) a.key (idle-asked told a idle legal.0 small) (ends-legal told.conn told.state a legal) key in
    subst (λ s. IsOwed (at told s) []) (sym (replay-append told.state asks ends)) (record { sound = behind.sound; taken = behind.taken; only = behind.only })

-- what waits after an event is taken
taken-all : (told : Told) (event : Event) (outs : List Out) (lost : Bool) (taken : ℕ) → (step told.state event).connections.rows ≡ due_row told.conn outs lost taken ∷ []
    → given_by told.conn (step told.state event) (taking told.conn (step told.state event)) ≡ outs
taken-all told event outs lost taken rows = given-taking told.conn (step told.state event) ∙ ap (waiting_for told.conn) rows ∙ rw (same told.conn.0) refl

-- what a request gives
given-asked : (told : Told) (a : TimedRequest) → IsOwed told [] → RequestFits told.conn told.state a → given_by told.conn told.state (asking told.conn told.state a) ≡ asked_outputs told.conn told.state a
given-asked told a idle small =
    taken-all told (arrival told.conn a) (asked_outputs told.conn told.state a) false idle.taken (arrived-rows told.conn told.state a idle.taken idle.only small)

-- what its key gives
given-finished : (told : Told) (work : Option Work) (key : Option TimedKey) → IsOwed told [] → CanWaitTogether (key_outputs told.conn told.state work key)
    → given_by told.conn told.state (finishing told.conn told.state work key) ≡ key_outputs told.conn told.state work key
given-finished told None key idle small = refl
given-finished told (Some work) None idle small = refl
given-finished told (Some work) (Some key) idle small =
    let event = derivation told.conn work key in
    taken-all told event (put_to told.conn told.state event) false idle.taken (derived-rows told.conn told.state work key idle.taken idle.only small)

-- one request with its key
output-one : (told : Told) (a : TimedRequest) → IsOwed told [] → Legal told.state (turn told.conn told.state a) → RequestFits told.conn told.state a → KeyFits told.conn told.state a
    → given_by told.conn told.state (turn told.conn told.state a) ≡ outputs_of told.conn told.state a
output-one told a idle legal small key =
    let asks = asking told.conn told.state a in
    let here = at told (replay told.state asks) in
    let ends = finishing told.conn here.state (work_for told.conn told.state a) a.key in
    let one = given-asked told a idle small in
    let two = given-finished here (work_for told.conn told.state a) a.key (idle-asked told a idle legal.0 small) key in
    given_by-append told.conn told.state asks ends ∙ (λ i. one i ++ two i)

outputs : (asked : List TimedRequest) (told : Told) → IsOwed told [] → Legal told.state (turns told.conn told.state asked) → FitTogether told.conn told.state asked
    → given_by told.conn told.state (turns told.conn told.state asked) ≡ outputs_to told.conn told.state asked
outputs [] told idle legal fit = refl
outputs (a ∷ more) told idle legal fit =
    let now = turn told.conn told.state a in
    let next = replay told.state now in
    let here = legal-front told.state now (turns told.conn next more) legal in
    let one = output-one told a idle here fit.0 fit.1 in
    let rest = outputs more (at told next) (idle-turn told a idle here fit.0 fit.1) (legal-behind told.state now (turns told.conn next more) legal) fit.2 in
    given_by-append told.conn told.state now (turns told.conn next more) ∙ (λ i. one i ++ rest i)

-- that the connection is gone gives nothing
gone-none : (conn : ConnId) (state : State) (asked : List TimedRequest) → given_by conn state (single conn state asked) ≡ given_by conn state (turns conn state asked)
gone-none conn state asked =
    let all = turns conn state asked in
    given_by-append conn state all (event.Gone conn ∷ []) ∙ append-nil (given_by conn state all)

pub single-outputs : (told : Told) (asked : List TimedRequest) → IsOwed told [] → Legal told.state (single told.conn told.state asked) → FitTogether told.conn told.state asked
    → given_by told.conn told.state (single told.conn told.state asked) ≡ outputs_to told.conn told.state asked
single-outputs told asked idle legal fit =
    gone-none told.conn told.state asked ∙ outputs asked told idle (legal-front told.state (turns told.conn told.state asked) (event.Gone told.conn ∷ []) legal) fit

-- ---- the replies

one-replies : (conn : ConnId) (state : State) (a : TimedRequest) → filter is_reply (outputs_of conn state a) ≡ reply_to conn state a
one-replies conn state a =
    let here = replay state (asking conn state a) in
    let first : filter is_reply (asked_outputs conn state a) ≡ reply_to conn state a = ran-replies (recorded_of conn a) state in
    let key : filter is_reply (key_outputs conn here (work_for conn state a) a.key) ≡ [] = key-replies conn here (work_for conn state a) a.key in
    filter-append is_reply (asked_outputs conn state a) (key_outputs conn here (work_for conn state a) a.key) ∙ (λ i. first i ++ key i) ∙ append-nil (reply_to conn state a)

-- the replies among the outputs
pub replies-among : (asked : List TimedRequest) (conn : ConnId) (state : State) → filter is_reply (outputs_to conn state asked) ≡ replies_to conn state asked
replies-among [] conn state = refl
replies-among (a ∷ more) conn state =
    let next = replay state (turn conn state a) in
    let one = one-replies conn state a in
    let rest = replies-among more conn next in
    filter-append is_reply (outputs_of conn state a) (outputs_to conn next more) ∙ (λ i. one i ++ rest i)

-- ---- the replies, if signals are lost

-- the first of outputs without a reply have none
front-none : (front rest all : List Out) → all ≡ front ++ rest → filter is_reply all ≡ [] → filter is_reply front ≡ []
front-none front rest all is none =
    let both : filter is_reply front ++ filter is_reply rest ≡ [] = sym (filter-append is_reply front rest) ∙ ap (filter is_reply) (sym is) ∙ none in
    first-empty (filter is_reply front) (filter is_reply rest) both
  where
    first-empty : (one other : List Out) → one ++ other ≡ [] → one ≡ []
    first-empty [] other empty = refl
    first-empty (out ∷ one) other empty = let no : out ∷ (one ++ other) ≡ [] = empty in cc

-- what waits after signals alone has no reply
none-waits : {conn : ConnId} {all : List Out} {taken : ℕ} {rows : List ConnRow} → (d : IsDelivered conn [] all taken rows) → filter is_reply all ≡ [] → filter is_reply d.waiting ≡ []
none-waits {all = all} d none = front-none d.waiting d.rest all d.front none

-- what waits after outputs, in their rows
waits-in : {conn : ConnId} {all : List Out} {taken : ℕ} {rows : List ConnRow} → (d : IsDelivered conn [] all taken rows) → waiting_for conn rows ≡ d.waiting
waits-in {conn = conn} {taken = taken} d = ap (waiting_for conn) d.only ∙ row-waits conn d.waiting d.lost taken

-- all but the first
abbrev behind_first : List Out → List Out
behind_first [] = []
behind_first (out ∷ outs) = outs

-- what waits after a reply and signals has that reply alone
reply-waits : (conn : ConnId) (reply : Out) (sends : List Sent) (taken : ℕ) → is_reply reply ≡ true → size_of reply ≤ most_waiting → AreSignals sends
    → filter is_reply (waiting_for conn (delivered (record { to = One conn; out = reply } ∷ sends) (due_row conn [] false taken ∷ []))) ≡ reply ∷ []
reply-waits conn reply sends taken is small are =
    let row = due_row conn [] false taken in
    let first : given_out (record { to = One conn; out = reply }) (row ∷ []) ≡ due_row conn (reply ∷ []) false taken ∷ [] =
    ap (λ b. cond b (with_out reply row) row ∷ []) (same conn.0)
    ∙ ap (λ b. cond b (due_row conn (reply ∷ []) false taken) (due_row conn [] true taken) ∷ []) (le-leb (size_waiting [] + size_of reply) most_waiting (omega (arith, small))) in
    let d = delivered-due conn sends (reply ∷ []) taken (omega (arith, small, sum_by-cons size_of reply [])) in
    let rest : sent_to conn sends ≡ d.more ++ d.rest = ap behind_first (d.front ∙ ap (λ l. l ++ d.rest) d.kept) in
    let none : filter is_reply d.more ≡ [] = front-none d.more d.rest (sent_to conn sends) rest (no-reply conn sends are) in
    ap (λ rows. filter is_reply (waiting_for conn (delivered sends rows))) first ∙ ap (λ rows. filter is_reply (waiting_for conn rows)) d.only ∙ ap (filter is_reply) (row-waits conn d.waiting d.lost taken ∙ d.kept)
    ∙ ap (λ b. cond b (reply ∷ filter is_reply d.more) (filter is_reply d.more)) is ∙ ap (λ l. reply ∷ l) none

-- the reply to a request waits, if it wants one, and no other one
asked-replies : (told : Told) (a : TimedRequest) → IsOwed told [] → filter is_reply (given_by told.conn told.state (asking told.conn told.state a)) ≡ reply_to told.conn told.state a
asked-replies told a idle =
    let conn = told.conn in
    let came = recorded_of conn a in
    let ran = served came told.state in
    let reply = message_of a.request.serial ran.answer in
    let are = served-signals came told.state in
    let pass : (wanted : Bool)
    → filter is_reply (waiting_for conn (delivered (cond wanted (record { to = One conn; out = reply } ∷ []) [] ++ ran.sends) (due_row conn [] false idle.taken ∷ []))) ≡ cond wanted (reply ∷ []) [] =
    elim [
      | true ↦ reply-waits conn reply ran.sends idle.taken (message-replies a.request.serial ran.answer) (reply-small came told.state) are
      | false ↦
          let d = delivered-due conn ran.sends [] idle.taken (omega arith) in
          ap (filter is_reply) (waits-in d) ∙ none-waits d (no-reply conn ran.sends are)
    ] in
    ap (filter is_reply) (given-taking conn (step told.state (arrival conn a)))
    ∙ ap (λ rows. filter is_reply (waiting_for conn rows)) (arrived-connections came told.state ∙ ap (delivered (put_out conn a.request ran)) idle.only)
    ∙ pass a.request.wants_reply

-- none waits after a key
finished-none : (told : Told) (work : Option Work) (key : Option TimedKey) → (IsTrue (is_some key) → IsOwed told []) → filter is_reply (given_by told.conn told.state (finishing told.conn told.state work key)) ≡ []
finished-none told None key idle = refl
finished-none told (Some work) None idle = refl
finished-none told (Some work) (Some key) idle =
    let is = idle refl in
    let event = derivation told.conn work key in
    let d = derived-due told.conn told.state work key is.taken is.only in
    ap (filter is_reply) (taken-all told event d.waiting d.lost is.taken d.only) ∙ none-waits d (key-replies told.conn told.state (Some work) (Some key))

-- the last request
last-replies : (told : Told) (a : TimedRequest) → IsOwed told [] → Legal told.state (turn told.conn told.state a) → FitsBefore told.conn told.state a
    → filter is_reply (given_by told.conn told.state (turn told.conn told.state a)) ≡ reply_to told.conn told.state a
last-replies told a idle legal fits =
    let conn = told.conn in
    let asks = asking conn told.state a in
    let here = at told (replay told.state asks) in
    let ends = finishing conn here.state (work_for conn told.state a) a.key in
    let first = asked-replies told a idle in
    let key = finished-none here (work_for conn told.state a) a.key (λ some. idle-asked told a idle legal.0 (fits some)) in
    ap (filter is_reply) (given_by-append conn told.state asks ends) ∙ filter-append is_reply (given_by conn told.state asks) (given_by conn here.state ends) ∙ (λ i. first i ++ key i)
    ∙ append-nil (reply_to conn told.state a)

given-replies : (asked : List TimedRequest) (told : Told) → IsOwed told [] → Legal told.state (turns told.conn told.state asked) → FitBefore told.conn told.state asked
    → filter is_reply (given_by told.conn told.state (turns told.conn told.state asked)) ≡ replies_to told.conn told.state asked
given-replies [] told idle legal fit = refl
given-replies (a ∷ []) told idle legal fit =
    let conn = told.conn in
    let now = turn conn told.state a in
    ap (λ l. filter is_reply (given_by conn told.state l)) (append-nil now) ∙ last-replies told a idle (legal-front told.state now [] legal) fit ∙ sym (append-nil (reply_to conn told.state a))
given-replies (a ∷ b ∷ more) told idle legal fit =
    let conn = told.conn in
    let now = turn conn told.state a in
    let next = replay told.state now in
    let here = legal-front told.state now (turns conn next (b ∷ more)) legal in
    let one : filter is_reply (given_by conn told.state now) ≡ reply_to conn told.state a = ap (filter is_reply) (output-one told a idle here fit.0 fit.1) ∙ one-replies conn told.state a in
    let rest = given-replies (b ∷ more) (at told next) (idle-turn told a idle here fit.0 fit.1) (legal-behind told.state now (turns conn next (b ∷ more)) legal) fit.2 in
    ap (filter is_reply) (given_by-append conn told.state now (turns conn next (b ∷ more))) ∙ filter-append is_reply (given_by conn told.state now) (given_by conn next (turns conn next (b ∷ more))) ∙ (λ i. one i ++ rest i)

pub single-replies : (told : Told) (asked : List TimedRequest) → IsOwed told [] → Legal told.state (single told.conn told.state asked) → FitBefore told.conn told.state asked
    → filter is_reply (given_by told.conn told.state (single told.conn told.state asked)) ≡ replies_to told.conn told.state asked
single-replies told asked idle legal fit =
    ap (filter is_reply) (gone-none told.conn told.state asked) ∙ given-replies asked told idle (legal-front told.state (turns told.conn told.state asked) (event.Gone told.conn ∷ []) legal) fit
