-- What the tool reads in what a call returns. None is what has other values than the call returns from a service that needs
-- no prompt.
use Rattle.std.specs.Prelude.{ℕ, nat_lt, Bool, List, [], ◌∷◌, length, Option, Some, None, codes, option_and_then, option_map, if◌then◌else◌}
use Rattle.std.specs.Str.{bytes_eq}
use Rattle.kr_base.specs.declared.ids.ItemId.{ItemId}
use Rattle.kr_base.specs.declared.ids.SessionId.{SessionId}
use Rattle.kr_names.specs.declared.object_name.ObjectName.{ObjectName}
use Rattle.kr_names.specs.declared.object_name.ObjectName.TheVariants as name
use Rattle.kr_names.specs.Naming.{name_of_path}
use Rattle.secret_calls.specs.declared.out.Body.{Body}
use Rattle.secret_calls.specs.declared.out.Body.TheVariants as body
use Rattle.secret_calls.specs.declared.property.PropertyValue.TheVariants as shown
use Rattle.client_core.specs.declared.reply.Reply.{Reply}
use Rattle.client_core.specs.declared.reply.Reply.TheVariants as reply

-- what is read in the values of a reply; None if it is an error
abbrev pub returned : {A : Type 0} → (Body → Option A) → Reply → Option A
returned value (reply.Return body) = value body
returned value (reply.Error name) = None

-- OpenSession: the session, whose number isn't 0
abbrev pub session_in : Body → Option SessionId
session_in (body.Session session) = if nat_lt 0 session.0 then Some session else None
session_in _ = None

-- SearchItems: the paths of the items in unlocked collections, and in locked ones
abbrev pub found_in : Body → Option (List (List ℕ) × List (List ℕ))
found_in (body.Found unlocked locked) = Some (unlocked, locked)
found_in _ = None

-- GetSecret: the value of the secret
abbrev pub value_in : Body → Option (List ℕ)
value_in (body.Secret secret) = Some secret.value
value_in _ = None

-- CreateItem: the path of the item, which needs no prompt
abbrev pub made_in : Body → Option (List ℕ)
made_in (body.ObjectAndPrompt object None) = Some object
made_in _ = None

-- Delete: the path of no prompt
abbrev pub deleted_in : Body → Option (List ℕ)
deleted_in (body.Object prompt) = if bytes_eq prompt (codes "/") then Some prompt else None
deleted_in _ = None

-- Lock: the objects that are locked, which need no prompt
abbrev pub locked_in : Body → Option (List (List ℕ))
locked_in (body.ObjectsAndPrompt objects None) = Some objects
locked_in _ = None

-- the names of these paths, if each is a path of the service
abbrev pub names_of : List (List ℕ) → Option (List ObjectName)
names_of [] = Some []
names_of (path ∷ paths) = option_and_then (λ name. option_map (λ names. name ∷ names) (names_of paths)) (name_of_path path)

-- Get of Collections: the collections
abbrev pub collections_in : Body → Option (List ObjectName)
collections_in (body.Property (shown.Objects paths)) = names_of paths
collections_in _ = None

-- the stem and the number of an item, if the name is an item's
abbrev pub parts_of_name : Option ObjectName → Option (List ℕ × ItemId)
parts_of_name (Some (name.Item stem item)) = Some (stem, item)
parts_of_name _ = None

-- the same for a path
abbrev pub item_at : List ℕ → Option (List ℕ × ItemId)
item_at path = parts_of_name (name_of_path path)
