-- The attributes of a command have texts, so its calls can be asked.
use Rattle.std.proofs.Common.{◌≡◌, ℕ, zero, suc, ◌<◌, nat_lt, Bool, true, false, cond, IsTrue, List, [], ◌∷◌, map, Option, Some, None, IfSome, option_map, option_and_then, codes, length, refl, sym, ap, ◌∙◌, subst, slice_get, arith}
use Rattle.std.specs.declared.cmp.Ordering.{Ordering}
use Rattle.std.specs.declared.cmp.Ordering.TheVariants.{Less, Equal, Greater}
use Rattle.std.specs.BTreeMap.{insert_entry}
use Rattle.std.specs.Cmp.Lexicographic.{slice_cmp}
use Rattle.std.specs.List.{AllByRecursion, fold, list_all}
use Rattle.std.specs.Option.{option_map_or}
use Rattle.std.specs.Ordering.{nat_cmp, match_ordering}
use Rattle.std.proofs.lemmas.Bool.Decides.{nat_tests}
use Rattle.std.proofs.lemmas.List.Elements.{All-from_recursion}
use Rattle.std.proofs.lemmas.List.Sums.{AllPass-from_list_all}
use Rattle.kr_base.specs.declared.attributes.AttrValue.{AttrValue}
use Rattle.kr_base.specs.declared.attributes.AttrValue.TheVariants as value
use Rattle.kr_base.specs.declared.ids.ItemId.{ItemId}
use Rattle.kr_base.specs.declared.ids.SessionId.{SessionId}
use Rattle.kr_base.specs.Attributes.{Gathers, gathered, with_pair}
use Rattle.kr_base.proofs.GatheredLemmas.{is_gathered}
use Rattle.kr_names.specs.declared.object_name.ObjectName.{ObjectName}
use Rattle.kr_names.specs.declared.object_name.ObjectName.TheVariants as name
use Rattle.kr_names.specs.Naming.{name_of_path}
use Rattle.kr_names.specs.Escape.{is_path_byte}
use Rattle.kr_names.specs.Path.{HasPath, IsAliasName, IsName, IsPathOf}
use Rattle.secret_calls.specs.declared.call.Call.{Call}
use Rattle.secret_calls.specs.declared.call.Call.TheVariants as call
use Rattle.secret_calls.specs.declared.out.Body.{Body}
use Rattle.secret_calls.specs.declared.out.Body.TheVariants as body
use Rattle.secret_calls.specs.declared.property.PropertyValue.TheVariants as shown
use Rattle.call_arguments.specs.Arguments as arguments
use Rattle.client_core.specs.declared.reply.Reply.{Reply}
use Rattle.client_core.specs.declared.reply.Reply.TheVariants as reply
use Rattle.client_core.specs.Askable.{AreTexts, IsAskable, is_text_value}
use Rattle.tool_script.specs.declared.command.Command.{Command}
use Rattle.tool_script.specs.declared.command.Command.TheVariants as command
use Rattle.tool_script.specs.Words.{HasTexts, attributes_of, pairs_of}
use Rattle.tool_script.specs.Replies.{returned, session_in, found_in, deleted_in, collections_in, names_of, item_at}
use Rattle.tool_script.specs.declared.steps.ToolStep.{ToolStep}
use Rattle.tool_script.specs.declared.steps.ToolStep.TheVariants as step
use Rattle.tool_script.specs.Script.{create, then_calls, get, get_first, delete, deletes, print, script, step_after, CanBeSent}
use Rattle.tool_script.proofs.ScriptLemmas.{sent-is}

-- ---- what is gathered from texts

abbrev IsTextPair : List ℕ × AttrValue → Type 0
IsTextPair pair = IsTrue (is_text_value pair.1)

abbrev by_bytes : List ℕ → List ℕ → Ordering
by_bytes = slice_cmp nat_cmp

texts-with : (made : List (List ℕ × AttrValue)) (key text : List ℕ) → AllByRecursion IsTextPair made → AllByRecursion IsTextPair (insert_entry by_bytes made key (value.Text text))
texts-with [] key text all = (refl, tt)
texts-with (e ∷ made) key text all = placed (by_bytes key e.0) (texts-with made key text all.1)
  where
    placed : (r : Ordering) → AllByRecursion IsTextPair (insert_entry by_bytes made key (value.Text text))
        → AllByRecursion IsTextPair (match_ordering r ((key, value.Text text) ∷ e ∷ made) ((e.0, value.Text text) ∷ made) (e ∷ insert_entry by_bytes made key (value.Text text)))
    placed Less more = (refl, all)
    placed Equal more = (refl, all.1)
    placed Greater more = (all.0, more)

texts-folded : (made : List (List ℕ × AttrValue)) (pairs : List (List ℕ × List ℕ)) → AllByRecursion IsTextPair made
    → AllByRecursion IsTextPair (fold with_pair made (map (λ p. (p.0, value.Text p.1)) pairs))
texts-folded made [] all = all
texts-folded made (pair ∷ pairs) all = texts-folded (with_pair made (pair.0, value.Text pair.1)) pairs (texts-with made pair.0 pair.1 all)

pub gathered-texts : (pairs : List (List ℕ × List ℕ)) → AreTexts (arguments.attributes_of pairs)
unfolding gathered
gathered-texts pairs = All-from_recursion IsTextPair (arguments.attributes_of pairs) (texts-folded [] pairs tt)

abbrev as_texts : List (List ℕ × List ℕ) → List (List ℕ × AttrValue)
as_texts pairs = map (λ p. (p.0, value.Text p.1)) pairs

-- what is gathered from a command's pairs has texts
pub made-texts : (pairs : List (List ℕ × List ℕ)) (made : List (List ℕ × AttrValue)) → Gathers (as_texts pairs) made → AreTexts made
made-texts pairs made gathers = subst AreTexts (sym (is_gathered (as_texts pairs) made gathers)) (gathered-texts pairs)

-- and is the attributes that the words are
pub made-are : (words : List (List ℕ)) (pairs : List (List ℕ × List ℕ)) (made : List (List ℕ × AttrValue)) → (length words ≡ 0 → ⊥) → pairs_of words ≡ Some pairs
    → Gathers (as_texts pairs) made → Some made ≡ attributes_of words
made-are [] pairs made some is gathers = absurd (some refl)
made-are (word ∷ words) pairs made some is gathers = ap Some (is_gathered (as_texts pairs) made gathers) ∙ sym (ap (option_map arguments.attributes_of) is)

-- ---- what is read in replies

alias-fits : IsAliasName (codes "default")
alias-fits = record {
  some = omega arith;
  fits = omega arith;
  bytes = AllPass-from_list_all is_path_byte (codes "default") refl;
}

abbrev session-or : Option SessionId → SessionId → SessionId
session-or None other = other
session-or (Some session) other = session

no-session : (it : SessionId) → None ≡ Some it → ⊥
no-session it e = cc

no-names : (names : List ObjectName) → None ≡ Some names → ⊥
no-names names e = cc

session-some : (session it : SessionId) → cond (nat_lt 0 session.0) (Some session) None ≡ Some it → 0 < it.0
session-some session it is = pass (nat_lt 0 session.0) refl is
  where
    pass : (b : Bool) → nat_lt 0 session.0 ≡ b → cond b (Some session) None ≡ Some it → 0 < it.0
    pass true some same = let e : session.0 ≡ it.0 = ap (λ (o : Option SessionId). (session-or o it).0) same in grind (arith, nat_tests, some, e)
    pass false none same = absurd (no-session it same)

session-is : (b : Body) (it : SessionId) → session_in b ≡ Some it → 0 < it.0
session-is (body.Session session) it is = session-some session it is
session-is body.Empty it is = absurd (no-session it is)
session-is (body.Found unlocked locked) it is = absurd (no-session it is)
session-is (body.ObjectsAndPrompt objects prompt) it is = absurd (no-session it is)
session-is (body.Objects objects) it is = absurd (no-session it is)
session-is (body.ObjectAndPrompt object prompt) it is = absurd (no-session it is)
session-is (body.Object object) it is = absurd (no-session it is)
session-is (body.Secret secret) it is = absurd (no-session it is)
session-is (body.Secrets secrets) it is = absurd (no-session it is)
session-is (body.Property shown) it is = absurd (no-session it is)
session-is (body.Properties properties) it is = absurd (no-session it is)

name-path : (it : ObjectName) → IsName it → HasPath it
name-path name.Nothing is = tt
name-path name.Service is = tt
name-path name.Agent is = tt
name-path (name.Collection stem) is = tt
name-path (name.Item stem item) is = tt
name-path (name.Alias alias) is = is
name-path (name.Session session) is = is.0
name-path (name.Prompt prompt) is = is.0

abbrev names-or : Option (List ObjectName) → List ObjectName → List ObjectName
names-or None other = other
names-or (Some names) other = names

names-paths : ((path : List ℕ) (name : ObjectName) → name_of_path path ≡ Some name → IsPathOf name path) → (paths : List (List ℕ)) (names : List ObjectName) → names_of paths ≡ Some names → AllByRecursion HasPath names
names-paths naming [] names is = subst (AllByRecursion HasPath) (ap (λ (o : Option (List ObjectName)). names-or o names) is) tt
names-paths naming (path ∷ paths) names is = pass (name_of_path path) (names_of paths) refl (names-paths naming paths) is
  where
    pass : (one : Option ObjectName) (more : Option (List ObjectName)) → name_of_path path ≡ one → ((them : List ObjectName) → more ≡ Some them → AllByRecursion HasPath them)
        → option_and_then (λ it. option_map (λ them. it ∷ them) more) one ≡ Some names → AllByRecursion HasPath names
    pass None more one-is each e = absurd (no-names names e)
    pass (Some one) None one-is each e = absurd (no-names names e)
    pass (Some one) (Some more) one-is each e =
        subst (AllByRecursion HasPath) (ap (λ (o : Option (List ObjectName)). names-or o names) e) (name-path one (naming path one one-is).named, each more refl)

collections-paths : ((path : List ℕ) (name : ObjectName) → name_of_path path ≡ Some name → IsPathOf name path) → (b : Body) (names : List ObjectName) → collections_in b ≡ Some names → AllByRecursion HasPath names
collections-paths naming (body.Property (shown.Objects paths)) names is = names-paths naming paths names is
collections-paths naming (body.Property (shown.Text text)) names is = absurd (no-names names is)
collections-paths naming (body.Property (shown.Truth truth)) names is = absurd (no-names names is)
collections-paths naming (body.Property (shown.Moment seconds)) names is = absurd (no-names names is)
collections-paths naming (body.Property (shown.Attributes attributes)) names is = absurd (no-names names is)
collections-paths naming body.Empty names is = absurd (no-names names is)
collections-paths naming (body.Session session) names is = absurd (no-names names is)
collections-paths naming (body.Found unlocked locked) names is = absurd (no-names names is)
collections-paths naming (body.ObjectsAndPrompt objects prompt) names is = absurd (no-names names is)
collections-paths naming (body.Objects objects) names is = absurd (no-names names is)
collections-paths naming (body.ObjectAndPrompt object prompt) names is = absurd (no-names names is)
collections-paths naming (body.Object object) names is = absurd (no-names names is)
collections-paths naming (body.Secret secret) names is = absurd (no-names names is)
collections-paths naming (body.Secrets secrets) names is = absurd (no-names names is)
collections-paths naming (body.Properties properties) names is = absurd (no-names names is)

-- ---- calls

abbrev CanAll : List Call → Type 0
CanAll calls = AllByRecursion IsAskable calls

then-can : {A : Type 0} (value : Body → Option A) (next : A → List Reply → List Call) (P : A → Type 0) → ((b : Body) (it : A) → value b ≡ Some it → P it)
    → ((it : A) (replies : List Reply) → P it → CanAll (next it replies)) → (replies : List Reply) → CanAll (then_calls value next replies)
then-can value next P reads each [] = tt
then-can value next P reads each (reply.Error name ∷ replies) = tt
then-can {A} value next P reads each (reply.Return b ∷ replies) = pass (value b) refl
  where
    pass : (o : Option A) → value b ≡ o → CanAll (option_map_or (λ it. next it replies) o [])
    pass None is = tt
    pass (Some it) is = each it replies (reads b it is)

get-can : (session : SessionId) (item : Option (List ℕ × ItemId)) → 0 < session.0 → CanAll (get session item)
get-can session None some = tt
get-can session (Some item) some = (some, tt)

first-can : (session : SessionId) (paths : List (List ℕ)) → 0 < session.0 → CanAll (get_first session paths)
first-can session [] some = tt
first-can session (path ∷ paths) some = get-can session (item_at path) some

delete-can : (item : Option (List ℕ × ItemId)) (more : List Call) → CanAll more → CanAll (delete item more)
delete-can None more all = tt
delete-can (Some item) more all = (tt, all)

deletes-can : (paths : List (List ℕ)) (replies : List Reply) → CanAll (deletes paths replies)
deletes-can [] replies = tt
deletes-can (path ∷ paths) [] = delete-can (item_at path) [] tt
deletes-can (path ∷ paths) (it ∷ replies) = delete-can (item_at path) (option_map_or (λ _. deletes paths replies) (returned deleted_in it) []) (pass (returned deleted_in it) (deletes-can paths replies))
  where
    pass : (o : Option (List ℕ)) → CanAll (deletes paths replies) → CanAll (option_map_or (λ _. deletes paths replies) o [])
    pass None all = tt
    pass (Some done) all = all

-- all calls of a script can be asked
script-can : ((path : List ℕ) (name : ObjectName) → name_of_path path ≡ Some name → IsPathOf name path) → (command : Command) (replies : List Reply) → HasTexts command → CanAll (script command replies)
script-can naming (command.Store label attributes secret) replies texts =
    (tt, then-can session_in (λ session more. create label attributes secret session ∷ []) (λ session. 0 < session.0) session-is (λ session more some. ((tt, alias-fits, texts, some), tt)) replies)
script-can naming (command.Lookup wanted) replies texts = (
  tt,
  then-can session_in (λ session more. call.SearchItems wanted ∷ then_calls found_in (λ found last. get_first session found.0) more) (λ session. 0 < session.0) session-is
      (λ session more some. (texts, then-can found_in (λ found last. get_first session found.0) (λ found. Unit {0}) (λ b found is. tt) (λ found last here. first-can session found.0 some) more)) replies,
)
script-can naming (command.Search wanted) replies texts = (texts, tt)
script-can naming (command.Clear wanted) replies texts =
    (texts, then-can found_in (λ found more. deletes found.0 more) (λ found. Unit {0}) (λ b found is. tt) (λ found more here. deletes-can found.0 more) replies)
script-can naming command.Lock replies texts =
    ((tt, refl), then-can collections_in (λ objects more. call.Lock objects ∷ []) (λ objects. AllByRecursion HasPath objects) (collections-paths naming) (λ objects more all. (All-from_recursion HasPath objects all, tt)) replies)

abbrev call-or : Option Call → Call → Call
call-or None other = other
call-or (Some it) other = it

at-place : (calls : List Call) (place : ℕ) (it : Call) → CanAll calls → slice_get calls place ≡ Some it → IsAskable it
at-place [] place it all is = absurd (no-call it is)
  where
    no-call : (it : Call) → None ≡ Some it → ⊥
    no-call it e = cc
at-place (one ∷ calls) zero it all is = subst IsAskable (ap (λ (o : Option Call). call-or o it) is) all.0
at-place (one ∷ calls) (suc place) it all is = at-place calls place it all.1 is

-- a call that is sent can be asked
pub step-can : ((path : List ℕ) (name : ObjectName) → name_of_path path ≡ Some name → IsPathOf name path) → (command : Command) (replies : List Reply) (it : ToolStep) → HasTexts command
    → step_after command replies ≡ Some it → CanBeSent it
step-can naming command replies (step.End end) texts is = tt
step-can naming command replies (step.Send it) texts is =
    at-place (script command replies) (length replies) it (script-can naming command replies texts) (sent-is (script command replies) (print command replies) (length replies) it is)
