-- The values of a return that has no secret in it: all that a row of the table of calls can answer by itself.
use Rattle.std.specs.Prelude.{ℕ, List, Option}
use Rattle.kr_base.specs.declared.ids.PromptId.{PromptId}
use Rattle.kr_base.specs.declared.ids.SessionId.{SessionId}
use Rattle.service_prompts.specs.secret_calls.specs.declared.property.PropertyValue.{PropertyValue}
use Rattle.service_prompts.specs.secret_calls.specs.declared.property.ShownProperty.{ShownProperty}
use Rattle.service_prompts.specs.secret_calls.specs.declared.out.Body.{Body}
use Rattle.service_prompts.specs.secret_calls.specs.declared.out.Body.TheVariants as body

-- the values of a return, none of which is a secret
pub data PublicBody : Type 0 where
  -- no values
  Empty : PublicBody
  -- a session that was opened
  Session : (session : SessionId) → PublicBody
  -- the items that match, of unlocked collections and of locked ones
  Found : (unlocked : List (List ℕ)) → (locked : List (List ℕ)) → PublicBody
  -- objects, and the prompt for those that are left
  ObjectsAndPrompt : (objects : List (List ℕ)) → (prompt : Option PromptId) → PublicBody
  -- objects
  Objects : (objects : List (List ℕ)) → PublicBody
  -- an object, and the prompt that leads to it
  ObjectAndPrompt : (object : List ℕ) → (prompt : Option PromptId) → PublicBody
  -- an object
  Object : (object : List ℕ) → PublicBody
  -- the value of a property
  Property : (value : PropertyValue) → PublicBody
  -- properties with their values
  Properties : (properties : List ShownProperty) → PublicBody

-- the values as a body
abbrev pub body_with : PublicBody → Body
body_with Empty = body.Empty
body_with (Session session) = body.Session session
body_with (Found unlocked locked) = body.Found unlocked locked
body_with (ObjectsAndPrompt objects prompt) = body.ObjectsAndPrompt objects prompt
body_with (Objects objects) = body.Objects objects
body_with (ObjectAndPrompt object prompt) = body.ObjectAndPrompt object prompt
body_with (Object object) = body.Object object
body_with (Property value) = body.Property value
body_with (Properties properties) = body.Properties properties
