-- What the client tool does for a command: the calls that it makes, each a function of the replies before it, and what it prints
-- at the end, with its status.
use Rattle.std.specs.Prelude.{ℕ, suc, Bool, true, List, [], ◌∷◌, ◌++◌, length, slice_get, Option, Some, None, codes, decimal, option_and_then, option_map}
use Rattle.std.specs.List.{flat_map}
use Rattle.std.specs.Option.{option_map_or, option_or}
use Rattle.kr_base.specs.declared.attributes.AttrValue.{AttrValue}
use Rattle.kr_base.specs.declared.ids.ItemId.{ItemId}
use Rattle.kr_base.specs.declared.ids.SessionId.{SessionId}
use Rattle.kr_names.specs.declared.object_name.ObjectName.TheVariants as name
use Rattle.secret_calls.specs.declared.call.Call.{Call}
use Rattle.secret_calls.specs.declared.call.Call.TheVariants as call
use Rattle.secret_calls.specs.declared.out.Body.{Body}
use Rattle.secret_calls.specs.declared.property.Property.TheVariants as property
use Rattle.secret_calls.specs.declared.secret.Secret.{Secret}
use Rattle.client_core.specs.declared.reply.Reply.{Reply}
use Rattle.client_core.specs.declared.reply.Reply.TheVariants as reply
use Rattle.client_core.specs.Askable.{IsAskable}
use Rattle.tool_script.specs.declared.command.Command.{Command}
use Rattle.tool_script.specs.declared.command.Command.TheVariants as command
use Rattle.tool_script.specs.declared.steps.ScriptEnd.{ScriptEnd}
use Rattle.tool_script.specs.declared.steps.ScriptStatus.{ScriptStatus}
use Rattle.tool_script.specs.declared.steps.ScriptStatus.TheVariants as status
use Rattle.tool_script.specs.declared.steps.ToolStep.{ToolStep}
use Rattle.tool_script.specs.declared.steps.ToolStep.TheVariants as step
use Rattle.tool_script.specs.Replies.{returned, session_in, found_in, value_in, made_in, deleted_in, locked_in, collections_in, item_at}

-- ---- the calls

-- a session for secrets that aren't encrypted
abbrev pub open_session : Call
open_session = call.OpenSession (codes "plain")

-- the secret that is stored
abbrev pub given : List ℕ → SessionId → Secret
given value session = record { session = Some session; value = value; content = codes "text/plain" }

-- an item of the default collection, in place of one with the same attributes
abbrev pub create : List ℕ → List (List ℕ × AttrValue) → List ℕ → SessionId → Call
create label attributes value session = call.CreateItem (name.Alias (codes "default")) label attributes (given value session) true

-- the collections of the service
abbrev pub collections : Call
collections = call.Get name.Service property.Collections

-- the calls after the one that is answered first, if its reply has this value
abbrev pub then_calls : {A : Type 0} → (Body → Option A) → (A → List Reply → List Call) → List Reply → List Call
then_calls value next [] = []
then_calls value next (reply ∷ replies) = option_map_or (λ it. next it replies) (returned value reply) []

-- the secret of an item
abbrev pub get : SessionId → Option (List ℕ × ItemId) → List Call
get session None = []
get session (Some item) = call.GetSecret item.0 item.1 (Some session) ∷ []

-- the secret of the first of these items, if there is one
abbrev pub get_first : SessionId → List (List ℕ) → List Call
get_first session [] = []
get_first session (path ∷ paths) = get session (item_at path)

-- an item is deleted, and more
abbrev pub delete : Option (List ℕ × ItemId) → List Call → List Call
delete None more = []
delete (Some item) more = call.DeleteItem item.0 item.1 ∷ more

-- each of these items is deleted, once the one before it was
abbrev pub deletes : List (List ℕ) → List Reply → List Call
deletes [] replies = []
deletes (path ∷ paths) [] = delete (item_at path) []
deletes (path ∷ paths) (reply ∷ replies) = delete (item_at path) (option_map_or (λ it. deletes paths replies) (returned deleted_in reply) [])

-- the calls of a command, as far as these replies lead
abbrev pub script : Command → List Reply → List Call
script (command.Store label attributes secret) replies = open_session ∷ then_calls session_in (λ session more. create label attributes secret session ∷ []) replies
script (command.Lookup wanted) replies =
    open_session ∷ then_calls session_in (λ session more. call.SearchItems wanted ∷ then_calls found_in (λ found last. get_first session found.0) more) replies
script (command.Search wanted) replies = call.SearchItems wanted ∷ []
script (command.Clear wanted) replies = call.SearchItems wanted ∷ then_calls found_in (λ found more. deletes found.0 more) replies
script command.Lock replies = collections ∷ then_calls collections_in (λ objects more. call.Lock objects ∷ []) replies

-- ---- the end

-- an end with nothing printed
abbrev pub silent : ScriptStatus → ScriptEnd
silent status = record { status = status; text = [] }

-- an end with all printed
abbrev pub done : List ℕ → ScriptEnd
done text = record { status = status.Done; text = text }

-- the end at a reply without the values that its call returns: an error has a name
abbrev pub stopped : Reply → ScriptEnd
stopped (reply.Error name) = silent (status.Refused name)
stopped (reply.Return body) = silent status.BadReply

-- the end after the first reply, if it has this value
abbrev pub then_ends : {A : Type 0} → (Body → Option A) → (A → List Reply → Option ScriptEnd) → List Reply → Option ScriptEnd
then_ends value next [] = None
then_ends value next (reply ∷ replies) = option_map_or (λ it. next it replies) (returned value reply) (Some (stopped reply))

-- the end after a path that should be an item's
abbrev pub with_item : Option (List ℕ × ItemId) → Option ScriptEnd → Option ScriptEnd
with_item None end = Some (silent status.BadReply)
with_item (Some item) end = end

-- the value of the first match; without an unlocked match, whether there is a locked one
abbrev pub first_printed : List (List ℕ) → List (List ℕ) → List Reply → Option ScriptEnd
first_printed [] [] replies = Some (silent status.NotFound)
first_printed [] (path ∷ locked) replies = Some (silent status.Locked)
first_printed (path ∷ unlocked) locked replies = with_item (item_at path) (then_ends value_in (λ value more. Some (done value)) replies)

-- the line of a match in an unlocked collection: its path
abbrev pub open_line : List ℕ → List ℕ
open_line path = path ++ 10 ∷ []

-- the line of one in a locked collection
abbrev pub locked_line : List ℕ → List ℕ
locked_line path = path ++ codes " locked\n"

-- the lines of the matches, the unlocked ones first
abbrev pub matches_printed : List (List ℕ) → List (List ℕ) → List ℕ
matches_printed unlocked locked = flat_map open_line unlocked ++ flat_map locked_line locked

-- a line of a word and a number
abbrev pub counted : List ℕ → ℕ → List ℕ
counted word number = word ++ 32 ∷ (decimal number ++ 10 ∷ [])

-- so many matches, once each of these is deleted
abbrev pub cleared : ℕ → List (List ℕ) → List Reply → Option ScriptEnd
cleared all [] replies = Some (done (counted (codes "cleared") all))
cleared all (path ∷ paths) [] = with_item (item_at path) None
cleared all (path ∷ paths) (reply ∷ replies) =
    with_item (item_at path) (option_map_or (λ it. cleared all paths replies) (returned deleted_in reply) (Some (stopped reply)))

-- what a command prints, and its status, if these replies lead to its end
abbrev pub print : Command → List Reply → Option ScriptEnd
print (command.Store label attributes secret) replies = then_ends session_in (λ session more. then_ends made_in (λ path last. Some (done [])) more) replies
print (command.Lookup wanted) replies =
    then_ends session_in (λ session more. then_ends found_in (λ found last. first_printed found.0 found.1 last) more) replies
print (command.Search wanted) replies = then_ends found_in (λ found more. Some (done (matches_printed found.0 found.1))) replies
print (command.Clear wanted) replies = then_ends found_in (λ found more. cleared (length found.0) found.0 more) replies
print command.Lock replies =
    then_ends collections_in (λ objects more. then_ends locked_in (λ locked last. Some (done (counted (codes "locked") (length locked)))) more) replies

-- ---- the next step

-- the next of these calls after so many, or else this end
abbrev pub step_of : List Call → Option ScriptEnd → ℕ → Option ToolStep
step_of calls end place = option_or (option_map (λ it. step.Send it) (slice_get calls place)) (option_map (λ it. step.End it) end)

-- the step after these replies
abbrev pub step_after : Command → List Reply → Option ToolStep
step_after command replies = step_of (script command replies) (print command replies) (length replies)

-- a call that is sent can be asked
abbrev pub CanBeSent : ToolStep → Type 0
CanBeSent (step.Send call) = IsAskable call
CanBeSent (step.End end) = Unit {0}

-- ---- a script under way

-- the command, and the replies so far
pub record Course : Type 0 where
  pub command : Command
  pub replies : List Reply

-- a script before its first call
abbrev pub begun : Command → Course
begun command = record { command = command; replies = [] }

-- replies with one more, if there is one
abbrev pub with_reply : Option Reply → List Reply → List Reply
with_reply None replies = replies
with_reply (Some reply) replies = replies ++ reply ∷ []

-- the script after one more reply, if there is one
abbrev pub heard : Course → Option Reply → Course
heard course reply = record course { replies = with_reply reply course.replies }
