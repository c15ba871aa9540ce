-- The calls of a load (docs/SERVICE.md, "The load").
use Rattle.std.specs.Prelude.{ℕ, zero, suc, ◌+◌, List, [], ◌∷◌, ◌++◌, Some, None, false, codes, decimal}
use Rattle.kr_base.specs.declared.attributes.AttrValue.{AttrValue}
use Rattle.kr_base.specs.declared.attributes.AttrValue.TheVariants as value
use Rattle.kr_base.specs.declared.ids.SessionId.{SessionId}
use Rattle.kr_base.specs.declared.ids.PromptId.{PromptId}
use Rattle.kr_names.specs.declared.object_name.ObjectName.{ObjectName}
use Rattle.kr_names.specs.declared.object_name.ObjectName.TheVariants as name
use Rattle.secret_calls.specs.declared.secret.Secret.{Secret}
use Rattle.secret_calls.specs.declared.call.Call.{Call}
use Rattle.secret_calls.specs.declared.call.Call.TheVariants as call
use Rattle.load_plan.specs.Words.{group_of, secret_of}

-- the first of the values of a function on numbers, from 0 on
abbrev pub first : {A : Type 0} → (ℕ → A) → ℕ → List A
first f zero = []
first f (suc n) = first f n ++ f n ∷ []

-- the stem and the label of the collection, and its password
abbrev pub the_name : List ℕ
the_name = codes "load"

-- the session that OpenSession opens: it is the first of the service
abbrev pub the_session : SessionId
the_session = record { 0 = 1 }

-- the prompt that CreateCollection makes: it is the first of the service
abbrev pub the_prompt : PromptId
the_prompt = record { 0 = 1 }

-- the attributes of an item
abbrev pub attributes_of : ℕ → ℕ → List (List ℕ × AttrValue)
attributes_of seed item =
    (codes "group", value.Text (decimal (group_of seed item))) ∷ (codes "number", value.Text (decimal item)) ∷ []

-- the secret of an item
abbrev pub given : ℕ → ℕ → Secret
given seed item = record { session = Some the_session; value = secret_of seed item; content = codes "text/plain" }

-- the call that makes an item
abbrev pub create : ℕ → ℕ → Call
create seed item = call.CreateItem (name.Collection the_name) (codes "item " ++ decimal item) (attributes_of seed item) (given seed item) false

-- the call that searches for a group
abbrev pub search : ℕ → Call
search group = call.SearchItems ((codes "group", value.Text (decimal group)) ∷ [])

-- the call that reads an item: the items of a new collection are numbered from 1 on
abbrev pub read : ℕ → Call
read item = call.GetSecret the_name (record { 0 = item + 1 }) (Some the_session)

-- what comes first: an agent, a collection, its password, a session
abbrev pub opening : List Call
opening =
    call.Register ∷ call.CreateCollection the_name None ∷ call.Prompt the_prompt ∷ call.Answer (Some the_prompt) 1 the_name ∷ call.OpenSession (codes "plain") ∷ []

-- all calls of a load of so many items under this seed
abbrev pub plan : ℕ → ℕ → List Call
plan items seed = opening ++ (first (create seed) items ++ (first search 10 ++ first read items))
