-- What the service sends is read as what it sent.
use Rattle.std.proofs.Common.{◌≡◌, ℕ, rules, ◌^◌, ◌<◌, ◌==◌, Bool, true, false, List, [], ◌∷◌, Option, Some, None, IfSome, Ok, Err, option_map, option_and_then, if◌then◌else◌, refl, sym, ap, ◌∙◌}
use Rattle.std.specs.List.{AllByRecursion}
use Rattle.std.specs.Option.{option_or}
use Rattle.std.proofs.lemmas.Bool.{eqb-true}
use Rattle.kr_base.specs.declared.ids.PromptId.{PromptId}
use Rattle.kr_base.specs.declared.ids.SessionId.{SessionId}
use Rattle.kr_names.specs.declared.object_name.ObjectName.{ObjectName}
use Rattle.kr_names.specs.declared.object_name.ObjectName.TheVariants as name
use Rattle.kr_names.specs.Naming.{name_of_path}
use Rattle.kr_names.specs.Path.{path_text, sessions, prompts, IsName, IsPathOf}
use Rattle.dbus_types.specs.declared.complete_type.BasicType.TheVariants as basics
use Rattle.dbus_types.specs.Values.{Val}
use Rattle.dbus_types.specs.ValueViews.{bit_of}
use Rattle.dbus_framing.specs.Headers.{path_in}
use Rattle.dbus_framing.specs.Messages.{Parts}
use Rattle.secret_calls.specs.declared.property.Attribute.{Attribute}
use Rattle.secret_calls.specs.declared.property.Property.{Property}
use Rattle.secret_calls.specs.declared.property.Property.TheVariants as property
use Rattle.secret_calls.specs.declared.property.PropertyValue.{PropertyValue}
use Rattle.secret_calls.specs.declared.property.PropertyValue.TheVariants as shown
use Rattle.secret_calls.specs.declared.property.ShownProperty.{ShownProperty}
use Rattle.secret_calls.specs.declared.secret.ReturnedSecret.{ReturnedSecret}
use Rattle.secret_calls.specs.declared.secret.ItemSecret.{ItemSecret}
use Rattle.secret_calls.specs.declared.serial.Serial.{Serial}
use Rattle.secret_calls.specs.declared.out.Body.{Body}
use Rattle.secret_calls.specs.declared.out.Body.TheVariants as body
use Rattle.secret_calls.specs.declared.out.ErrorName.{ErrorName}
use Rattle.secret_calls.specs.declared.out.Out.TheVariants as out
use Rattle.secret_calls.specs.Outs.{error_text, session_path, prompt_text, path_values, paths_value, secret_value, secret_values, property_text, attribute_values, property_value, shown_value, shown_values, values_of, AreTyped, IsPrompt, IsSecret, AreSecrets}
use Rattle.call_arguments.specs.Arguments.{all_in, truth_in, session_named, session_of_name, prompt_of_name}
use Rattle.call_wire.specs.Said.{said}
use Rattle.client_core.specs.declared.reply.Shape.{Shape}
use Rattle.client_core.specs.declared.reply.Shape.TheVariants as shape
use Rattle.client_core.specs.declared.reply.Reply.TheVariants as reply
use Rattle.client_core.specs.declared.reply.ReplyFault.TheVariants as fault
use Rattle.client_core.specs.Replies.{shape_in, prompt_of, paths_in, secret_at, item_secret_at, property_named, attribute_in, shown_in, property_at, body_in, answers, returned, failed, reply_in, HasNumbers}

-- a path has the name whose path it is; a law of kr_names
abbrev pub Naming : Type 0
Naming = (path : List ℕ) (name : ObjectName) → IsPathOf name path → name_of_path path ≡ Some name

-- ---- paths

paths_among_again : (paths : List (List ℕ)) → all_in path_in (path_values paths) ≡ Some paths
paths_among_again [] = refl
paths_among_again (path ∷ paths) = ap (λ o. option_map (λ more. path ∷ more) o) (paths_among_again paths)

pub paths_again : (paths : List (List ℕ)) → paths_in (paths_value paths) ≡ Some paths
paths_again paths = paths_among_again paths

module _ (naming : Naming) where
  pub named_again : (name : ObjectName) → IsName name → name_of_path (path_text name) ≡ Some name
  named_again name is = naming (path_text name) name (record { named = is; spelled = refl })

  session_again : (session : SessionId) → 0 < session.0 → session.0 < 2 ^ 64 → session_named (session_path session.0) ≡ Some session
  unfolding sessions
  session_again session some fits = ap session_of_name (named_again (name.Session session) (some, fits))

  prompt_again : (prompt : Option PromptId) → IsPrompt prompt → IfSome prompt (λ it. 0 < it.0) → prompt_of (prompt_text prompt) ≡ Some prompt
  unfolding prompts
  prompt_again None is some = refl
  prompt_again (Some prompt) is some = ap (λ o. option_map Some (prompt_of_name o)) (named_again (name.Prompt prompt) (some, is))

  -- ---- secrets

  secret_again : (secret : ReturnedSecret) → IsSecret secret → 0 < secret.session.0 → secret_at (secret_value secret) ≡ Some secret
  secret_again secret is some =
      ap (λ o. option_and_then (λ (session : SessionId). Some (record { session = session; value = secret.value; content = secret.content })) o)
      (session_again secret.session some is.session)

  secrets_among_again : (secrets : List ItemSecret) → AreSecrets secrets → AllByRecursion (λ (one : ItemSecret). 0 < one.secret.session.0) secrets
      → all_in item_secret_at (secret_values secrets) ≡ Some secrets
  secrets_among_again [] are some = refl
  secrets_among_again (one ∷ secrets) are some =
      let held : item_secret_at (Val.entry (Val.text basics.ObjectPath one.item) (secret_value one.secret)) ≡ Some one = ap (λ o. option_map (λ (secret : ReturnedSecret). record { item = one.item; secret = secret }) o) (secret_again one.secret are.1 some.0) in
      ap (λ o. option_and_then (λ (it : ItemSecret). option_map (λ more. it ∷ more) (all_in item_secret_at (secret_values secrets))) o) held
      ∙ ap (λ o. option_map (λ (more : List ItemSecret). one ∷ more) o) (secrets_among_again secrets are.2 some.1)

  -- ---- properties

  pub property_again : (it : Property) → property_named (property_text it) ≡ Some it
  property_again property.Collections = refl
  property_again _ = refl

  attributes_again : (attributes : List Attribute) → all_in attribute_in (attribute_values attributes) ≡ Some attributes
  attributes_again [] = refl
  attributes_again (one ∷ attributes) = ap (λ (o : Option (List Attribute)). option_map (λ more. one ∷ more) o) (attributes_again attributes)

  pub bit_again : (truth : Bool) → truth_in (Val.number basics.Boolean (bit_of truth)) ≡ Some truth
  bit_again true = refl
  bit_again false = refl

  shown_again : (value : PropertyValue) → shown_in (property_value value) ≡ Some value
  shown_again (shown.Objects objects) =
      ap (λ (o : Option (List (List ℕ))). option_or (option_map (λ (them : List (List ℕ)). shown.Objects them) o) None) (paths_again objects)
  shown_again (shown.Text text) = refl
  shown_again (shown.Attributes attributes) = ap (λ (o : Option (List Attribute)). option_map (λ (them : List Attribute). shown.Attributes them) o) (attributes_again attributes)
  shown_again (shown.Truth true) = refl
  shown_again (shown.Truth false) = refl
  shown_again (shown.Moment seconds) = refl

  one_again : (one : ShownProperty) → property_at (shown_value one) ≡ Some one
  one_again one =
      ap (λ (o : Option Property). option_and_then (λ it. option_map (λ (value : PropertyValue). record { property = it; value = value }) (shown_in (property_value one.value))) o) (property_again one.property)
      ∙ ap (λ (o : Option PropertyValue). option_map (λ (value : PropertyValue). record { property = one.property; value = value }) o) (shown_again one.value)

  pub properties_again : (properties : List ShownProperty) → all_in property_at (shown_values properties) ≡ Some properties
  properties_again [] = refl
  properties_again (one ∷ properties) =
      ap (λ (o : Option ShownProperty). option_and_then (λ (it : ShownProperty). option_map (λ more. it ∷ more) (all_in property_at (shown_values properties))) o) (one_again one)
      ∙ ap (λ (o : Option (List ShownProperty)). option_map (λ more. one ∷ more) o) (properties_again properties)

  -- ---- bodies

  body_again : (body : Body) → AreTyped body → HasNumbers body → body_in (shape_in body) (values_of body) ≡ Some body
  body_again body.Empty typed some = refl
  body_again (body.Session session) typed some = ap (λ o. option_and_then (λ (it : SessionId). Some (body.Session it)) o) (session_again session some typed)
  body_again (body.Found unlocked locked) typed some =
      ap (λ o. option_and_then (λ (them : List (List ℕ)). option_map (λ (others : List (List ℕ)). body.Found them others) (paths_in (paths_value locked))) o) (paths_again unlocked)
      ∙ ap (λ o. option_map (λ (others : List (List ℕ)). body.Found unlocked others) o) (paths_again locked)
  body_again (body.ObjectsAndPrompt objects prompt) typed some =
      ap (λ o. option_and_then (λ (them : List (List ℕ)). option_map (λ (it : Option PromptId). body.ObjectsAndPrompt them it) (prompt_of (prompt_text prompt))) o) (paths_again objects)
      ∙ ap (λ o. option_map (λ (it : Option PromptId). body.ObjectsAndPrompt objects it) o) (prompt_again prompt typed.1 some)
  body_again (body.Objects objects) typed some = ap (λ o. option_map (λ (them : List (List ℕ)). body.Objects them) o) (paths_again objects)
  body_again (body.ObjectAndPrompt object prompt) typed some =
      ap (λ o. option_map (λ (it : Option PromptId). body.ObjectAndPrompt object it) o) (prompt_again prompt typed.1 some)
  body_again (body.Object object) typed some = refl
  body_again (body.Secret secret) typed some = ap (λ o. option_map (λ (it : ReturnedSecret). body.Secret it) o) (secret_again secret typed some)
  body_again (body.Secrets secrets) typed some = ap (λ o. option_map (λ (them : List ItemSecret). body.Secrets them) o) (secrets_among_again secrets typed some)
  body_again (body.Property value) typed some = ap (λ o. option_map (λ (it : PropertyValue). body.Property it) o) (shown_again value)
  body_again (body.Properties properties) typed some = ap (λ o. option_map (λ (them : List ShownProperty). body.Properties them) o) (properties_again properties)

-- a body isn't one of another shape
other_body : (shape : Shape) (body : Body) → (shape_in body ≡ shape → ⊥) → body_in shape (values_of body) ≡ None
other_body shape.Empty body.Empty not = absurd (not refl)
other_body shape.Session (body.Session session) not = absurd (not refl)
other_body shape.Found (body.Found unlocked locked) not = absurd (not refl)
other_body shape.ObjectsAndPrompt (body.ObjectsAndPrompt objects prompt) not = absurd (not refl)
other_body shape.Objects (body.Objects objects) not = absurd (not refl)
other_body shape.ObjectAndPrompt (body.ObjectAndPrompt object prompt) not = absurd (not refl)
other_body shape.Object (body.Object object) not = absurd (not refl)
other_body shape.Secret (body.Secret secret) not = absurd (not refl)
other_body shape.Secrets (body.Secrets secrets) not = absurd (not refl)
other_body shape.Property (body.Property value) not = absurd (not refl)
other_body shape.Properties (body.Properties properties) not = absurd (not refl)
other_body shape.Found (body.ObjectsAndPrompt objects prompt) not =
    ap (λ o. option_and_then (λ (them : List (List ℕ)). option_map (λ (others : List (List ℕ)). body.Found them others) None) o) (paths_again objects)
other_body shape.ObjectsAndPrompt (body.Found unlocked locked) not =
    ap (λ o. option_and_then (λ (them : List (List ℕ)). option_map (λ (it : Option PromptId). body.ObjectsAndPrompt them it) None) o) (paths_again unlocked)
other_body _ _ not = refl

-- ---- replies

same : (n : ℕ) → (n == n) ≡ true
same n = search rules

other : (b : Bool) → (b ≡ true → ⊥) → b ≡ false
other true not = absurd (not refl)
other false not = refl

other_number : (to number : ℕ) → (to ≡ number → ⊥) → (to == number) ≡ false
other_number to number not = other (to == number) (λ e. not (eqb-true to number e))

pub return_again : Naming → (shape : Shape) (to : Serial) (body : Body) (serial : ℕ) → AreTyped body → HasNumbers body → shape_in body ≡ shape
    → reply_in shape to.number (said (out.Return to body) serial) ≡ Ok (reply.Return body)
return_again naming shape to body serial typed some is =
    ap (λ (b : Bool). if b then returned (body_in shape (values_of body)) else Err fault.NotAReply) (same to.number)
    ∙ ap (λ (s : Shape). returned (body_in s (values_of body))) (sym is) ∙ ap returned (body_again naming body typed some)

pub error_again : (shape : Shape) (to : Serial) (name : ErrorName) (serial : ℕ) → reply_in shape to.number (said (out.Error to name) serial) ≡ Ok (reply.Error (error_text name))
error_again shape to name serial = ap (λ (b : Bool). if b then failed (Some (error_text name)) else Err fault.NotAReply) (same to.number)

pub other_shape : (shape : Shape) (to : Serial) (body : Body) (serial : ℕ) → (shape_in body ≡ shape → ⊥)
    → reply_in shape to.number (said (out.Return to body) serial) ≡ Err fault.WrongShape
other_shape shape to body serial not =
    ap (λ (b : Bool). if b then returned (body_in shape (values_of body)) else Err fault.NotAReply) (same to.number)
    ∙ ap returned (other_body shape body not)

-- a message that answers another serial, or none, is no reply
pub other_serial : (shape : Shape) (number to : ℕ) (parts : Parts) → parts.reply_serial ≡ Some to → (to ≡ number → ⊥) → reply_in shape number parts ≡ Err fault.NotAReply
other_serial shape number to parts is not =
    let rest = if parts.kind == 2 then returned (body_in shape parts.body) else if parts.kind == 3 then failed parts.error_name else Err fault.NotAReply in
    ap (λ (o : Option ℕ). if answers number o then rest else Err fault.NotAReply) is
    ∙ ap (λ (b : Bool). if b then rest else Err fault.NotAReply) (other_number to number not)

pub no_serial : (shape : Shape) (number : ℕ) (parts : Parts) → parts.reply_serial ≡ None → reply_in shape number parts ≡ Err fault.NotAReply
no_serial shape number parts is =
    let rest = if parts.kind == 2 then returned (body_in shape parts.body) else if parts.kind == 3 then failed parts.error_name else Err fault.NotAReply in
    ap (λ (o : Option ℕ). if answers number o then rest else Err fault.NotAReply) is
