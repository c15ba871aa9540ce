-- A script has a next call exactly if it has no end yet, and a reply adds the next call to it.
use Rattle.std.proofs.Common.{◌≡◌, ℕ, zero, suc, Bool, true, false, not, List, [], ◌∷◌, ◌++◌, length, slice_get, codes, Option, Some, None, option_map, append-nil, refl, sym, ap, ◌∙◌}
use Rattle.std.specs.Option.{is_some, option_map_or, option_or, option_to_list}
use Rattle.kr_base.specs.declared.ids.ItemId.{ItemId}
use Rattle.kr_base.specs.declared.ids.SessionId.{SessionId}
use Rattle.secret_calls.specs.declared.call.Call.{Call}
use Rattle.secret_calls.specs.declared.call.Call.TheVariants as call
use Rattle.secret_calls.specs.declared.out.Body.{Body}
use Rattle.client_core.specs.declared.reply.Reply.{Reply}
use Rattle.client_core.specs.declared.reply.Reply.TheVariants as reply
use Rattle.tool_script.specs.declared.command.Command.{Command}
use Rattle.tool_script.specs.declared.command.Command.TheVariants as command
use Rattle.tool_script.specs.declared.steps.ScriptEnd.{ScriptEnd}
use Rattle.tool_script.specs.declared.steps.ToolStep.{ToolStep}
use Rattle.tool_script.specs.declared.steps.ToolStep.TheVariants as step
use Rattle.tool_script.specs.Replies.{returned, session_in, found_in, value_in, made_in, deleted_in, locked_in, collections_in, item_at}
use Rattle.tool_script.specs.Script.{open_session, create, collections, then_calls, get, get_first, delete, deletes, script, done, stopped, then_ends, with_item, first_printed, matches_printed, counted, cleared, print, step_of, step_after}

-- ---- a next call, or an end

abbrev Fits : List Call → Option ScriptEnd → ℕ → Type 0
Fits calls end place = is_some (slice_get calls place) ≡ not (is_some end)

then-fits : {A : Type 0} (it : Call) (value : Body → Option A) (next : A → List Reply → List Call) (ends : A → List Reply → Option ScriptEnd)
    → ((one : A) (replies : List Reply) → Fits (next one replies) (ends one replies) (length replies))
    → (replies : List Reply) → Fits (it ∷ then_calls value next replies) (then_ends value ends replies) (length replies)
then-fits it value next ends each [] = refl
then-fits {A} it value next ends each (r ∷ replies) = pass (returned value r)
  where
    pass : (o : Option A) → Fits (option_map_or (λ one. next one replies) o []) (option_map_or (λ one. ends one replies) o (Some (stopped r))) (length replies)
    pass None = refl
    pass (Some one) = each one replies

last-fits : {A : Type 0} (it : Call) (value : Body → Option A) (end : A → ScriptEnd)
    → (replies : List Reply) → Fits (it ∷ []) (then_ends value (λ one last. Some (end one)) replies) (length replies)
last-fits it value end [] = refl
last-fits {A} it value end (r ∷ replies) = pass (returned value r)
  where
    pass : (o : Option A) → false ≡ not (is_some (option_map_or (λ one. Some (end one)) o (Some (stopped r))))
    pass None = refl
    pass (Some one) = refl

first-fits : (session : SessionId) (unlocked locked : List (List ℕ)) (replies : List Reply) → Fits (get_first session unlocked) (first_printed unlocked locked replies) (length replies)
first-fits session [] [] replies = refl
first-fits session [] (path ∷ locked) replies = refl
first-fits session (path ∷ unlocked) locked replies = pass (item_at path)
  where
    pass : (o : Option (List ℕ × ItemId)) → Fits (get session o) (with_item o (then_ends value_in (λ value more. Some (done value)) replies)) (length replies)
    pass None = refl
    pass (Some item) = last-fits (call.GetSecret item.0 item.1 (Some session)) value_in (λ value. done value) replies

deletes-fits : (all : ℕ) (paths : List (List ℕ)) (replies : List Reply) → Fits (deletes paths replies) (cleared all paths replies) (length replies)
deletes-fits all [] replies = refl
deletes-fits all (path ∷ paths) [] = pass (item_at path)
  where
    pass : (o : Option (List ℕ × ItemId)) → Fits (delete o []) (with_item o None) 0
    pass None = refl
    pass (Some item) = refl
deletes-fits all (path ∷ paths) (r ∷ replies) = pass (item_at path) (returned deleted_in r) (deletes-fits all paths replies)
  where
    pass : (o : Option (List ℕ × ItemId)) (d : Option (List ℕ)) → Fits (deletes paths replies) (cleared all paths replies) (length replies)
        → Fits (delete o (option_map_or (λ it. deletes paths replies) d [])) (with_item o (option_map_or (λ it. cleared all paths replies) d (Some (stopped r)))) (suc (length replies))
    pass None d more = refl
    pass (Some item) None more = refl
    pass (Some item) (Some prompt) more = more

pub goes-on : (command : Command) (replies : List Reply) → is_some (slice_get (script command replies) (length replies)) ≡ not (is_some (print command replies))
goes-on (command.Store label attributes secret) replies =
    then-fits open_session session_in (λ session more. create label attributes secret session ∷ []) (λ session more. then_ends made_in (λ path last. Some (done [])) more)
    (λ session more. last-fits (create label attributes secret session) made_in (λ path. done []) more) replies
goes-on (command.Lookup wanted) replies =
    then-fits open_session session_in (λ session more. call.SearchItems wanted ∷ then_calls found_in (λ found last. get_first session found.0) more)
    (λ session more. then_ends found_in (λ found last. first_printed found.0 found.1 last) more)
    (λ session more. then-fits (call.SearchItems wanted) found_in (λ found last. get_first session found.0) (λ found last. first_printed found.0 found.1 last)
    (λ found last. first-fits session found.0 found.1 last) more) replies
goes-on (command.Search wanted) replies = last-fits (call.SearchItems wanted) found_in (λ found. done (matches_printed found.0 found.1)) replies
goes-on (command.Clear wanted) replies =
    then-fits (call.SearchItems wanted) found_in (λ found more. deletes found.0 more) (λ found more. cleared (length found.0) found.0 more)
    (λ found more. deletes-fits (length found.0) found.0 more) replies
goes-on command.Lock replies =
    then-fits collections collections_in (λ objects more. call.Lock objects ∷ [])
    (λ objects more. then_ends locked_in (λ locked last. Some (done (counted (codes "locked") (length locked)))) more)
    (λ objects more. last-fits (call.Lock objects) locked_in (λ locked. done (counted (codes "locked") (length locked))) more) replies

-- ---- an end stays

abbrev Stays : (List Reply → Option ScriptEnd) → Type 0
Stays ends = (replies more : List Reply) (end : ScriptEnd) → ends replies ≡ Some end → ends (replies ++ more) ≡ Some end

none-some : (end : ScriptEnd) → None ≡ Some end → ⊥
none-some end e = cc

then-stays : {A : Type 0} (value : Body → Option A) (ends : A → List Reply → Option ScriptEnd) → ((one : A) → Stays (ends one)) → Stays (then_ends value ends)
then-stays value ends each [] more end is = absurd (none-some end is)
then-stays {A} value ends each (r ∷ replies) more end is = pass (returned value r) is
  where
    pass : (o : Option A) → option_map_or (λ one. ends one replies) o (Some (stopped r)) ≡ Some end
        → option_map_or (λ one. ends one (replies ++ more)) o (Some (stopped r)) ≡ Some end
    pass None e = e
    pass (Some one) e = each one replies more end e

item-stays : (o : Option (List ℕ × ItemId)) (ends : List Reply → Option ScriptEnd) → Stays ends → Stays (λ replies. with_item o (ends replies))
item-stays None ends stays replies more end is = is
item-stays (Some item) ends stays replies more end is = stays replies more end is

first-stays : (unlocked locked : List (List ℕ)) → Stays (first_printed unlocked locked)
first-stays [] [] replies more end is = is
first-stays [] (path ∷ locked) replies more end is = is
first-stays (path ∷ unlocked) locked replies more end is =
    item-stays (item_at path) (λ them. then_ends value_in (λ value last. Some (done value)) them) (then-stays value_in (λ value last. Some (done value)) (λ value one two e at. at)) replies more end is

deletes-stay : (all : ℕ) (paths : List (List ℕ)) → Stays (cleared all paths)
deletes-stay all [] replies more end is = is
deletes-stay all (path ∷ paths) [] [] end is = is
deletes-stay all (path ∷ paths) [] (r ∷ more) end is = pass (item_at path) is
  where
    pass : (o : Option (List ℕ × ItemId)) → with_item o None ≡ Some end
        → with_item o (option_map_or (λ it. cleared all paths more) (returned deleted_in r) (Some (stopped r))) ≡ Some end
    pass None e = e
    pass (Some item) e = absurd (none-some end e)
deletes-stay all (path ∷ paths) (r ∷ replies) more end is = pass (item_at path) (returned deleted_in r) (deletes-stay all paths replies more end) is
  where
    pass : (o : Option (List ℕ × ItemId)) (d : Option (List ℕ)) → (cleared all paths replies ≡ Some end → cleared all paths (replies ++ more) ≡ Some end) → with_item o (option_map_or (λ it. cleared all paths replies) d (Some (stopped r))) ≡ Some end
        → with_item o (option_map_or (λ it. cleared all paths (replies ++ more)) d (Some (stopped r))) ≡ Some end
    pass None d later e = e
    pass (Some item) None later e = e
    pass (Some item) (Some prompt) later e = later e

pub end-stays : (command : Command) → Stays (print command)
end-stays (command.Store label attributes secret) =
    then-stays session_in (λ session more. then_ends made_in (λ path last. Some (done [])) more) (λ session. then-stays made_in (λ path last. Some (done [])) (λ path one two e at. at))
end-stays (command.Lookup wanted) =
    then-stays session_in (λ session more. then_ends found_in (λ found last. first_printed found.0 found.1 last) more)
    (λ session. then-stays found_in (λ found last. first_printed found.0 found.1 last) (λ found. first-stays found.0 found.1))
end-stays (command.Search wanted) = then-stays found_in (λ found more. Some (done (matches_printed found.0 found.1))) (λ found one two e at. at)
end-stays (command.Clear wanted) = then-stays found_in (λ found more. cleared (length found.0) found.0 more) (λ found. deletes-stay (length found.0) found.0)
end-stays command.Lock =
    then-stays collections_in (λ objects more. then_ends locked_in (λ locked last. Some (done (counted (codes "locked") (length locked)))) more)
    (λ objects. then-stays locked_in (λ locked last. Some (done (counted (codes "locked") (length locked)))) (λ locked one two e at. at))

-- ---- a reply adds the next call

-- before any reply there is one call at most
abbrev Begins : (List Reply → List Call) → Type 0
Begins calls = calls [] ≡ option_to_list (slice_get (calls []) 0)

abbrev Grows : (List Reply → List Call) → Type 0
Grows calls = (replies : List Reply) (one : Reply) → calls (replies ++ one ∷ []) ≡ calls replies ++ option_to_list (slice_get (calls (replies ++ one ∷ [])) (length (replies ++ one ∷ [])))

then-grows : {A : Type 0} (it : Call) (value : Body → Option A) (next : A → List Reply → List Call) → ((a : A) → Begins (next a)) → ((a : A) → Grows (next a))
    → Grows (λ replies. it ∷ then_calls value next replies)
then-grows {A} it value next begins each [] one = pass (returned value one)
  where
    pass : (o : Option A) → it ∷ option_map_or (λ a. next a []) o [] ≡ it ∷ option_to_list (slice_get (option_map_or (λ a. next a []) o []) 0)
    pass None = refl
    pass (Some a) = ap (λ (l : List Call). it ∷ l) (begins a)
then-grows {A} it value next begins each (r ∷ replies) one = pass (returned value r)
  where
    pass : (o : Option A) → it ∷ option_map_or (λ a. next a (replies ++ one ∷ [])) o []
        ≡ it ∷ (option_map_or (λ a. next a replies) o [] ++ option_to_list (slice_get (option_map_or (λ a. next a (replies ++ one ∷ [])) o []) (length (replies ++ one ∷ []))))
    pass None = refl
    pass (Some a) = ap (λ (l : List Call). it ∷ l) (each a replies one)

single-grows : (it : Call) → Grows (λ replies. it ∷ [])
single-grows it [] one = refl
single-grows it (r ∷ replies) one = refl

get-begins : (session : SessionId) (o : Option (List ℕ × ItemId)) → get session o ≡ option_to_list (slice_get (get session o) 0)
get-begins session None = refl
get-begins session (Some item) = refl

first-begins : (session : SessionId) (paths : List (List ℕ)) → get_first session paths ≡ option_to_list (slice_get (get_first session paths) 0)
first-begins session [] = refl
first-begins session (path ∷ paths) = get-begins session (item_at path)

get-grows : (session : SessionId) (o : Option (List ℕ × ItemId)) → Grows (λ replies. get session o)
get-grows session None replies one = refl
get-grows session (Some item) replies one = single-grows (call.GetSecret item.0 item.1 (Some session)) replies one

first-grows : (session : SessionId) (paths : List (List ℕ)) → Grows (λ replies. get_first session paths)
first-grows session [] replies one = refl
first-grows session (path ∷ paths) replies one = get-grows session (item_at path) replies one

deletes-begin : (paths : List (List ℕ)) → Begins (deletes paths)
deletes-begin [] = refl
deletes-begin (path ∷ paths) = pass (item_at path)
  where
    pass : (o : Option (List ℕ × ItemId)) → delete o [] ≡ option_to_list (slice_get (delete o []) 0)
    pass None = refl
    pass (Some item) = refl

deletes-grow : (paths : List (List ℕ)) → Grows (deletes paths)
deletes-grow [] replies one = refl
deletes-grow (path ∷ paths) [] one = pass (item_at path) (returned deleted_in one)
  where
    pass : (o : Option (List ℕ × ItemId)) (d : Option (List ℕ)) → delete o (option_map_or (λ it. deletes paths []) d [])
        ≡ delete o [] ++ option_to_list (slice_get (delete o (option_map_or (λ it. deletes paths []) d [])) 1)
    pass None d = refl
    pass (Some item) None = refl
    pass (Some item) (Some prompt) = ap (λ (l : List Call). call.DeleteItem item.0 item.1 ∷ l) (deletes-begin paths)
deletes-grow (path ∷ paths) (r ∷ replies) one = pass (item_at path) (returned deleted_in r) (deletes-grow paths replies one)
  where
    pass : (o : Option (List ℕ × ItemId)) (d : Option (List ℕ))
        → deletes paths (replies ++ one ∷ []) ≡ deletes paths replies ++ option_to_list (slice_get (deletes paths (replies ++ one ∷ [])) (length (replies ++ one ∷ [])))
        → delete o (option_map_or (λ it. deletes paths (replies ++ one ∷ [])) d [])
        ≡ delete o (option_map_or (λ it. deletes paths replies) d []) ++ option_to_list (slice_get (delete o (option_map_or (λ it. deletes paths (replies ++ one ∷ [])) d [])) (suc (length (replies ++ one ∷ []))))
    pass None d later = refl
    pass (Some item) None later = refl
    pass (Some item) (Some prompt) later = ap (λ (l : List Call). call.DeleteItem item.0 item.1 ∷ l) later

script-grows : (command : Command) → Grows (script command)
script-grows (command.Store label attributes secret) =
    then-grows open_session session_in (λ session more. create label attributes secret session ∷ []) (λ session. refl) (λ session. single-grows (create label attributes secret session))
script-grows (command.Lookup wanted) =
    then-grows open_session session_in (λ session more. call.SearchItems wanted ∷ then_calls found_in (λ found last. get_first session found.0) more) (λ session. refl)
    (λ session. then-grows (call.SearchItems wanted) found_in (λ found last. get_first session found.0) (λ found. first-begins session found.0) (λ found. first-grows session found.0))
script-grows (command.Search wanted) = single-grows (call.SearchItems wanted)
script-grows (command.Clear wanted) =
    then-grows (call.SearchItems wanted) found_in (λ found more. deletes found.0 more) (λ found. deletes-begin found.0) (λ found. deletes-grow found.0)
script-grows command.Lock = then-grows collections collections_in (λ objects more. call.Lock objects ∷ []) (λ objects. refl) (λ objects. single-grows (call.Lock objects))

-- ---- what a step is

abbrev is-send : Option ToolStep → Bool
is-send (Some (step.Send it)) = true
is-send (Some (step.End end)) = false
is-send None = false

abbrev call-of : Option ToolStep → Call → Call
call-of (Some (step.Send it)) other = it
call-of (Some (step.End end)) other = other
call-of None other = other

false-true : false ≡ true → ⊥
false-true e = cc

pub sent-is : (calls : List Call) (end : Option ScriptEnd) (place : ℕ) (it : Call) → step_of calls end place ≡ Some (step.Send it) → slice_get calls place ≡ Some it
sent-is calls end place it is = pass (slice_get calls place) end is
  where
    pass : (o : Option Call) (e : Option ScriptEnd) → option_or (option_map (λ one. step.Send one) o) (option_map (λ one. step.End one) e) ≡ Some (step.Send it) → o ≡ Some it
    pass (Some one) e same = ap Some (ap (λ (s : Option ToolStep). call-of s it) same)
    pass None None same = absurd (false-true (ap is-send same))
    pass None (Some one) same = absurd (false-true (ap is-send same))

pub ended-is : (calls : List Call) (end : Option ScriptEnd) (place : ℕ) (it : ScriptEnd) → step_of calls end place ≡ Some (step.End it) → slice_get calls place ≡ None
ended-is calls end place it is = pass (slice_get calls place) end is
  where
    pass : (o : Option Call) (e : Option ScriptEnd) → option_or (option_map (λ one. step.Send one) o) (option_map (λ one. step.End one) e) ≡ Some (step.End it) → o ≡ None
    pass (Some one) e same = absurd (false-true (sym (ap is-send same)))
    pass None e same = refl

pub grows-sent : (command : Command) (replies : List Reply) (one : Reply) (it : Call) → step_after command (replies ++ one ∷ []) ≡ Some (step.Send it)
    → script command (replies ++ one ∷ []) ≡ script command replies ++ it ∷ []
grows-sent command replies one it is =
    let all = replies ++ one ∷ [] in
    script-grows command replies one ∙ ap (λ (o : Option Call). script command replies ++ option_to_list o) (sent-is (script command all) (print command all) (length all) it is)

pub grows-ended : (command : Command) (replies : List Reply) (one : Reply) (it : ScriptEnd) → step_after command (replies ++ one ∷ []) ≡ Some (step.End it)
    → script command (replies ++ one ∷ []) ≡ script command replies
grows-ended command replies one it is =
    let all = replies ++ one ∷ [] in
    script-grows command replies one ∙ ap (λ (o : Option Call). script command replies ++ option_to_list o) (ended-is (script command all) (print command all) (length all) it is)
    ∙ append-nil (script command replies)
