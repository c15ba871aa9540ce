-- Which calls a client can make: what must be true of a call beyond its type to have a spelling, and what all of it is.
use Rattle.std.specs.Prelude.{◌≡◌, ℕ, ◌^◌, ◌<◌, IsTrue, Bool, true, false, List, [], ◌∷◌, map, Option, IfSome, All}
use Rattle.kr_base.specs.declared.attributes.AttrValue.{AttrValue}
use Rattle.kr_base.specs.declared.attributes.AttrValue.TheVariants as value
use Rattle.kr_base.specs.declared.ids.PromptId.{PromptId}
use Rattle.kr_base.specs.declared.ids.SessionId.{SessionId}
use Rattle.kr_base.specs.Attributes.{IsInOrder}
use Rattle.kr_base.specs.Text.{IsText}
use Rattle.kr_names.specs.declared.object_name.ObjectName.{ObjectName}
use Rattle.kr_names.specs.declared.object_name.ObjectName.TheVariants as name
use Rattle.kr_names.specs.Path.{IsAliasName, HasPath, IsName}
use Rattle.dbus_marshal.specs.Wire.{AreBytes}
use Rattle.secret_calls.specs.declared.secret.Secret.{Secret}
use Rattle.secret_calls.specs.declared.call.Call.{Call}
use Rattle.secret_calls.specs.declared.call.Call.TheVariants as call
use Rattle.secret_calls.specs.declared.property.Property.{Property}
use Rattle.secret_calls.specs.declared.property.Property.TheVariants as property
use Rattle.call_wire.specs.Properties.{properties}
use Rattle.client_core.specs.Arguments.{own_interface}
use Rattle.client_core.specs.Asked.{object_of}

-- the name is that of a collection, or of an alias
abbrev pub IsCollection : ObjectName → Type 0
IsCollection (name.Collection stem) = Unit {0}
IsCollection (name.Alias alias) = Unit {0}
IsCollection name = ⊥

-- whether the value of an attribute is a text
abbrev pub is_text_value : AttrValue → Bool
is_text_value (value.Text text) = true
is_text_value (value.Number number) = false

-- each value is a text
abbrev pub AreTexts : List (List ℕ × AttrValue) → Type 0
AreTexts attributes = All (λ pair. IsTrue (is_text_value pair.1)) attributes

-- each name has a path
abbrev pub HavePaths : List ObjectName → Type 0
HavePaths names = All HasPath names

-- the session's number isn't 0
abbrev pub IsSession : Option SessionId → Type 0
IsSession session = IfSome session (λ it. 0 < it.0)

-- the prompt's number isn't 0
abbrev pub IsPrompt : Option PromptId → Type 0
IsPrompt prompt = IfSome prompt (λ it. 0 < it.0)

-- the name is that of an object
abbrev pub IsObject : ObjectName → Type 0
IsObject name.Nothing = ⊥
IsObject object = Unit {0}

-- whether the service has a property
abbrev pub of_service : Property → Bool
of_service property.Collections = true
of_service other = false

-- whether a collection has
abbrev pub of_collection : Property → Bool
of_collection property.Collections = false
of_collection property.Attributes = false
of_collection other = true

-- whether an item has
abbrev pub of_item : Property → Bool
of_item property.Collections = false
of_item property.Items = false
of_item other = true

-- whether an object has
abbrev pub has_property : ObjectName → Property → Bool
has_property name.Service it = of_service it
has_property (name.Collection stem) it = of_collection it
has_property (name.Alias alias) it = of_collection it
has_property (name.Item stem item) it = of_item it
has_property object it = false

-- the properties of an object, in the order of the table
abbrev pub own_properties : ObjectName → List Property
own_properties object = map (λ row. row.property) (properties (own_interface object))

-- The call has a spelling: sessions and prompts have numbers other than 0, aliases have names of aliases, attributes have
-- texts, what is called on a collection is called on a collection or an alias, and the properties are those of their object.
abbrev pub IsAskable : Call → Type 0
IsAskable (call.CloseSession session) = 0 < session.0
IsAskable (call.SearchItems wanted) = AreTexts wanted
IsAskable (call.Unlock objects) = HavePaths objects
IsAskable (call.Lock objects) = HavePaths objects
IsAskable (call.GetSecrets items session) = HavePaths items × IsSession session
IsAskable (call.SetAlias alias object) = IfSome object HasPath
IsAskable (call.SearchCollection collection wanted) = IsCollection collection × HasPath collection × AreTexts wanted
IsAskable (call.CreateItem collection label attributes secret replace) =
    IsCollection collection × HasPath collection × AreTexts attributes × IsSession secret.session
IsAskable (call.DeleteCollection collection) = IsCollection collection × HasPath collection
IsAskable (call.ChangePassword collection) = IsCollection collection × HasPath collection
IsAskable (call.GetSecret stem item session) = IsSession session
IsAskable (call.SetSecret stem item secret) = IsSession secret.session
IsAskable (call.Get object property) = HasPath object × IsTrue (has_property object property)
IsAskable (call.GetAll object properties) = IsObject object × HasPath object × (properties ≡ own_properties object)
IsAskable (call.SetCollectionLabel collection label) = IsCollection collection × HasPath collection
IsAskable (call.SetAttributes stem item attributes) = AreTexts attributes
IsAskable (call.Prompt prompt) = 0 < prompt.0
IsAskable (call.Dismiss prompt) = 0 < prompt.0
IsAskable (call.Answer prompt round password) = IsPrompt prompt
IsAskable (call.Refuse prompt round) = IsPrompt prompt
IsAskable call = Unit {0}

-- ---- what the types add

-- each name is one
abbrev pub AreNames : List ObjectName → Type 0
AreNames [] = Unit {0}
AreNames (name ∷ names) = IsName name × AreNames names

-- each name and each value of the attributes is a text
abbrev pub ArePairs : List (List ℕ × AttrValue) → Type 0
ArePairs [] = Unit {0}
ArePairs ((key, value.Text text) ∷ pairs) = IsText key × IsText text × ArePairs pairs
ArePairs ((key, value.Number number) ∷ pairs) = ⊥

-- attributes whose values are texts, in order
pub record AreAttributes (attributes : List (List ℕ × AttrValue)) : Type 0 where
  pub ordered : IsInOrder attributes
  pub texts : ArePairs attributes

-- a session has a number of 64 bits that isn't 0
abbrev pub IsSessionName : Option SessionId → Type 0
IsSessionName session = IfSome session (λ it. IsName (name.Session it))

-- a prompt has a number of 64 bits that isn't 0
abbrev pub IsPromptName : Option PromptId → Type 0
IsPromptName prompt = IfSome prompt (λ it. IsName (name.Prompt it))

-- a secret whose session is one
pub record IsGiven (secret : Secret) : Type 0 where
  pub session : IsSessionName secret.session
  pub value : AreBytes secret.value
  pub content : IsText secret.content

-- the arguments of a call have a spelling
abbrev pub HasArguments : Call → Type 0
HasArguments (call.OpenSession algorithm) = IsText algorithm
HasArguments (call.CreateCollection label alias) = IsText label × IfSome alias IsAliasName
HasArguments (call.SearchItems wanted) = AreAttributes wanted
HasArguments (call.Unlock objects) = AreNames objects
HasArguments (call.Lock objects) = AreNames objects
HasArguments (call.GetSecrets items session) = AreNames items × IsSessionName session
HasArguments (call.ReadAlias name) = IsText name
HasArguments (call.SetAlias alias object) = IsAliasName alias × IfSome object IsName
HasArguments (call.SearchCollection collection wanted) = IsCollection collection × AreAttributes wanted
HasArguments (call.CreateItem collection label attributes secret replace) =
    IsCollection collection × IsText label × AreAttributes attributes × IsGiven secret
HasArguments (call.DeleteCollection collection) = IsCollection collection
HasArguments (call.ChangePassword collection) = IsCollection collection
HasArguments (call.GetSecret stem item session) = IsSessionName session
HasArguments (call.SetSecret stem item secret) = IsGiven secret
HasArguments (call.Get object property) = IsTrue (has_property object property)
HasArguments (call.GetAll object properties) = IsObject object × (properties ≡ own_properties object)
HasArguments (call.SetCollectionLabel collection label) = IsCollection collection × IsText label
HasArguments (call.SetItemLabel stem item label) = IsText label
HasArguments (call.SetAttributes stem item attributes) = AreAttributes attributes
HasArguments (call.Answer prompt round password) = IsPromptName prompt × (round < 2 ^ 64) × AreBytes password
HasArguments (call.Refuse prompt round) = IsPromptName prompt × (round < 2 ^ 64)
HasArguments call = Unit {0}

-- A client can make the call: the object that it is made on has a path, and its arguments have a spelling. All but
-- `IsAskable` follows from the types of its parts.
pub record CanBeAsked (call : Call) : Type 0 where
  pub object : IsName (object_of call)
  pub arguments : HasArguments call
