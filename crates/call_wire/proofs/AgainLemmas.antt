-- What is sent is read again as the same output.
use Rattle.std.proofs.Common.{◌≡◌, ℕ, ◌^◌, ◌<◌, ◌≤◌, ◌==◌, ◌&&◌, nat_lt, not, Bool, true, false, IsTrue, List, [], ◌∷◌, Option, Some, None, IfSome, length, drop, codes, decimal, unwrap_or, refl, ap, ◌∙◌, sym, arith, length-append, if◌then◌else◌}
use Rattle.std.specs.List.{All, list_all}
use Rattle.std.specs.Str.{bytes_eq}
use Rattle.std.specs.Str.Parse.{digits_value}
use Rattle.std.proofs.lemmas.Fmt.{decimal_is_IsNumeral, length-decimal-le}
use Rattle.kr_names.proofs.TextLemmas.{IsPlain}
use Rattle.dbus_types.specs.declared.endian.Endian.TheVariants.{Little}
use Rattle.dbus_types.specs.declared.complete_type.BasicType.TheVariants as basics
use Rattle.kr_base.specs.declared.ids.PromptId.{PromptId}
use Rattle.kr_base.specs.declared.ids.SessionId.{SessionId}
use Rattle.dbus_types.specs.Types.{Ty, is_signature}
use Rattle.dbus_types.specs.Values.{Val, Vals, tys_of}
use Rattle.dbus_types.specs.ValueViews.{bit_of}
use Rattle.dbus_marshal.specs.Limits.{array_limit}
use Rattle.dbus_marshal.specs.Wire.{IsTextOf, number_bytes}
use Rattle.dbus_marshal.specs.Spelling.{all_spelled, are_short}
use Rattle.dbus_marshal.specs.Fitting.{Fits, HaveSpelling}
use Rattle.dbus_framing.specs.Names.{is_interface_name, is_member_name}
use Rattle.dbus_framing.specs.Messages.{Parts, IsMessage}
use Rattle.dbus_framing.specs.Headers.{has_needed}
use Rattle.dbus_sending.specs.Sent.{HasHeader, CanBeSent, IsName, IsMember, IsSerial, bare_header, fields_of, fields_read}
use Rattle.dbus_sending.proofs.MessageLemmas.{sent_is_message}
use Rattle.secret_calls.specs.declared.out.Body.{Body}
use Rattle.secret_calls.specs.declared.out.Body.TheVariants as body
use Rattle.secret_calls.specs.declared.out.ErrorName.{ErrorName}
use Rattle.secret_calls.specs.declared.out.ErrorName.TheVariants as name
use Rattle.secret_calls.specs.declared.out.Out.{Out}
use Rattle.secret_calls.specs.declared.out.Out.TheVariants as out
use Rattle.secret_calls.specs.declared.changed.ChangedObject.{ChangedObject}
use Rattle.secret_calls.specs.declared.changed.ChangedObject.TheVariants as changed
use Rattle.secret_calls.specs.declared.property.Attribute.{Attribute}
use Rattle.secret_calls.specs.declared.property.Property.{Property}
use Rattle.secret_calls.specs.declared.property.Property.TheVariants as property
use Rattle.secret_calls.specs.declared.property.PropertyValue.{PropertyValue}
use Rattle.secret_calls.specs.declared.property.PropertyValue.TheVariants as shown
use Rattle.secret_calls.specs.declared.property.ShownProperty.{ShownProperty}
use Rattle.secret_calls.specs.declared.secret.ReturnedSecret.{ReturnedSecret}
use Rattle.secret_calls.specs.declared.secret.ItemSecret.{ItemSecret}
use Rattle.secret_calls.specs.declared.serial.Serial.{Serial}
use Rattle.secret_calls.specs.declared.signal.AskKind.{AskKind}
use Rattle.secret_calls.specs.declared.signal.AskKind.TheVariants as kind
use Rattle.secret_calls.specs.declared.signal.Completion.{Completion}
use Rattle.secret_calls.specs.declared.signal.Completion.TheVariants as completion
use Rattle.secret_calls.specs.declared.signal.Signal.{Signal}
use Rattle.secret_calls.specs.declared.signal.Signal.TheVariants as signal
use Rattle.secret_calls.proofs.SerialLemmas.{one_serial}
use Rattle.secret_calls.proofs.SizeLemmas.{prompt-short, fields-most}
use Rattle.secret_calls.proofs.SignalLemmas.{changed-short}
use Rattle.secret_calls.specs.Outs.{error_text, session_path, prompt_path, prompt_text, prompt_value, path_values, secret_value, secret_values, property_text, attribute_values, property_value, shown_values, name_values, values_of, kind_text, completion_value, service_path, changed_path, changed_interface, signal_values, emitter, signal_name, header_of, values_sent, sent, AreTyped, IsPrompt, IsSecret, AreSecrets, IsResult, IsEmitter, IsChanged, IsSignal, IsTyped, HasSpelling, spelled}
use Rattle.call_wire.specs.Said.{said, IsSendable}
use Rattle.call_wire.proofs.PlainLemmas.{plain_text, plain_literal, path_plain, path_is, prompt_plain, prompt_is}
use Rattle.call_wire.proofs.FitLemmas.{Within, all_within, all_short, text_is, path_fits, paths_fit, fields_fit, secrets_fit, bit_fits, shown_fits, properties_fit, names_fit}

-- ---- bodies

-- the values of a body have a signature and a spelling
record AreBody (values : Vals) : Type 0 where
  listed : IsTrue (is_signature (tys_of values))
  spelled : HaveSpelling values
  arrays : IsTrue (are_short Little values 0)

path_long : (n : ℕ) → n < 2 ^ 64 → length (session_path n) < 2 ^ 32
path_long n fits = omega (arith, length-append (codes "/org/freedesktop/secrets/session/s") (decimal n), length-decimal-le 20 n (omega arith) (omega (arith, fits)) fits)

-- the path of a prompt, or that of no object
prompt_fits : (depth : ℕ) (prompt : Option PromptId) → IsPrompt prompt → Fits depth (Ty.basic basics.ObjectPath) (prompt_value prompt)
prompt_fits depth None is = path_fits depth (codes "/") refl (omega arith)
prompt_fits depth (Some prompt) is = (refl, ((plain_text (prompt_path prompt.0) (prompt_plain prompt.0 is), omega (arith, prompt-short prompt is)), prompt_is prompt.0 is))

-- a body that is short enough for an array
abbrev IsShort : Vals → Type 0
IsShort values = length (all_spelled Little values 0) ≤ array_limit

body_is : (body : Body) → AreTyped body → IsShort (values_of body) → AreBody (values_of body)
body_is body.Empty typed short = record { listed = refl; spelled = tt; arrays = refl }
body_is (body.Session session) typed short = record {
  listed = refl;
  spelled = (
    (refl, (refl, (plain_text [] (plain_literal [] refl), omega arith))),
    ((refl, ((plain_text (session_path session.0) (path_plain session.0 typed), path_long session.0 typed), path_is session.0 typed)), tt),
  );
  arrays = refl;
}
body_is (body.Found unlocked locked) typed short =
    let few = all_within array_limit (values_of (body.Found unlocked locked)) 0 short in
    record {
      listed = refl;
      spelled = ((refl, paths_fit 63 unlocked typed.0 few.0, refl), ((refl, paths_fit 63 locked typed.1 few.1.0, refl), tt));
      arrays = all_short (values_of (body.Found unlocked locked)) 0 short;
    }
body_is (body.ObjectsAndPrompt objects prompt) typed short =
    let few = all_within array_limit (values_of (body.ObjectsAndPrompt objects prompt)) 0 short in
    record {
      listed = refl;
      spelled = ((refl, paths_fit 63 objects typed.0 few.0, refl), (prompt_fits 64 prompt typed.1, tt));
      arrays = all_short (values_of (body.ObjectsAndPrompt objects prompt)) 0 short;
    }
body_is (body.Objects objects) typed short =
    let few = all_within array_limit (values_of (body.Objects objects)) 0 short in
    record {
      listed = refl;
      spelled = ((refl, paths_fit 63 objects typed few.0, refl), tt);
      arrays = all_short (values_of (body.Objects objects)) 0 short;
    }
body_is (body.ObjectAndPrompt object prompt) typed short =
    let few = all_within array_limit (values_of (body.ObjectAndPrompt object prompt)) 0 short in
    record { listed = refl; spelled = (path_fits 64 object typed.0 few.0, (prompt_fits 64 prompt typed.1, tt)); arrays = refl }
body_is (body.Object object) typed short =
    let few = all_within array_limit (values_of (body.Object object)) 0 short in
    record { listed = refl; spelled = (path_fits 64 object typed few.0, tt); arrays = refl }
body_is (body.Secret secret) typed short =
    let few = all_within array_limit (values_of (body.Secret secret)) 0 short in
    record {
      listed = refl;
      spelled = (fields_fit 62 secret typed few.0, tt);
      arrays = all_short (values_of (body.Secret secret)) 0 short;
    }
body_is (body.Secrets secrets) typed short =
    let few = all_within array_limit (values_of (body.Secrets secrets)) 0 short in
    record {
      listed = refl;
      spelled = ((refl, secrets_fit secrets typed few.0, refl), tt);
      arrays = all_short (values_of (body.Secrets secrets)) 0 short;
    }
body_is (body.Property value) typed short =
    let few = all_within array_limit (values_of (body.Property value)) 0 short in
    record {
      listed = refl;
      spelled = (shown_fits 60 value typed few.0, tt);
      arrays = all_short (values_of (body.Property value)) 0 short;
    }
body_is (body.Properties properties) typed short =
    let few = all_within array_limit (values_of (body.Properties properties)) 0 short in
    record {
      listed = refl;
      spelled = ((refl, properties_fit properties typed few.0, refl), tt);
      arrays = all_short (values_of (body.Properties properties)) 0 short;
    }

-- ---- signals

kind_fits : (depth : ℕ) (kind : AskKind) → Fits depth (Ty.basic basics.String) (Val.text basics.String (kind_text kind))
kind_fits depth kind.Unlock = (refl, (plain_text (codes "unlock") (plain_literal (codes "unlock") refl), omega arith))
kind_fits depth kind.Create = (refl, (plain_text (codes "create") (plain_literal (codes "create") refl), omega arith))
kind_fits depth kind.Change = (refl, (plain_text (codes "change") (plain_literal (codes "change") refl), omega arith))

-- what a prompt completes with, as a variant
completion_fits : (result : Completion) → IsResult result → Within array_limit (completion_value result) → Fits 64 Ty.variant (Val.variant (completion_value result))
completion_fits (completion.Objects objects) is few = (refl, (refl, paths_fit 62 objects is few, refl))
completion_fits (completion.Object object) is few = (refl, path_fits 63 object is few)

-- the interface that has properties
interface_fits : (depth : ℕ) (object : ChangedObject) → Fits depth (Ty.basic basics.String) (Val.text basics.String (changed_interface object))
interface_fits depth changed.Service =
    (refl, (plain_text (codes "org.freedesktop.Secret.Service") (plain_literal (codes "org.freedesktop.Secret.Service") refl), omega arith))
interface_fits depth (changed.Collection collection) =
    (refl, (plain_text (codes "org.freedesktop.Secret.Collection") (plain_literal (codes "org.freedesktop.Secret.Collection") refl), omega arith))
interface_fits depth (changed.Item item) =
    (refl, (plain_text (codes "org.freedesktop.Secret.Item") (plain_literal (codes "org.freedesktop.Secret.Item") refl), omega arith))

signal_is : (signal : Signal) → IsSignal signal → IsShort (signal_values signal) → AreBody (signal_values signal)
signal_is (signal.Ask prompt round kind label wrong) typed short =
    let few = all_within array_limit (signal_values (signal.Ask prompt round kind label wrong)) 0 short in
    record {
      listed = refl;
      spelled = (
        prompt_fits 64 (Some prompt) typed.0,
        ((refl, typed.1), (kind_fits 64 kind, ((refl, (text_is label typed.2, omega (arith, few.1.1.1.0))), ((refl, typed.3), tt)))),
      );
      arrays = refl;
    }
signal_is (signal.Completed prompt dismissed result) typed short =
    let few = all_within array_limit (signal_values (signal.Completed prompt dismissed result)) 0 short in
    record {
      listed = refl;
      spelled = (bit_fits 64 dismissed, (completion_fits result typed.1 few.1.0, tt));
      arrays = all_short (signal_values (signal.Completed prompt dismissed result)) 0 short;
    }
signal_is (signal.CollectionCreated collection) typed short = body_is (body.Object collection) typed short
signal_is (signal.CollectionDeleted collection) typed short = body_is (body.Object collection) typed short
signal_is (signal.CollectionChanged collection) typed short = body_is (body.Object collection) typed short
signal_is (signal.ItemCreated collection item) typed short = body_is (body.Object item) typed.1 short
signal_is (signal.ItemDeleted collection item) typed short = body_is (body.Object item) typed.1 short
signal_is (signal.ItemChanged collection item) typed short = body_is (body.Object item) typed.1 short
signal_is (signal.PropertiesChanged object properties invalidated) typed short =
    let few = all_within array_limit (signal_values (signal.PropertiesChanged object properties invalidated)) 0 short in
    record {
      listed = refl;
      spelled = (
        interface_fits 64 object,
        ((refl, properties_fit properties typed.1 few.1.0, refl), ((refl, names_fit 63 invalidated, refl), tt)),
      );
      arrays = all_short (signal_values (signal.PropertiesChanged object properties invalidated)) 0 short;
    }

-- the values of an output
sent_is : (out : Out) → HasSpelling out → AreBody (values_sent out)
sent_is (out.Return to body) has = body_is body has.typed has.short
sent_is (out.Error to name) has = record { listed = refl; spelled = tt; arrays = refl }
sent_is (out.Signal signal) has = signal_is signal has.typed has.short

-- ---- the body with these values

-- the bytes of a text, and those of a byte array
abbrev text_in : Val → List ℕ
text_in (Val.text b text) = text
text_in value = []

abbrev bytes_in : Val → List ℕ
bytes_in (Val.bytes bytes) = bytes
bytes_in value = []

abbrev texts_in : Vals → List (List ℕ)
texts_in Vals.end = []
texts_in (Vals.more value values) = text_in value ∷ texts_in values

abbrev session_in : Val → SessionId
session_in value = record { 0 = digits_value 10 (drop 34 (text_in value)) }

-- the prompt with this path, which is longer than `/`
abbrev prompt_at : List ℕ → PromptId
prompt_at path = record { 0 = digits_value 10 (drop 33 path) }

abbrev prompt_in : List ℕ → Option PromptId
prompt_in [] = None
prompt_in (code ∷ []) = None
prompt_in (code ∷ next ∷ codes) = Some (prompt_at (code ∷ next ∷ codes))

-- the secret with these fields
abbrev secret_of : Vals → ReturnedSecret
secret_of (Vals.more path (Vals.more parameters (Vals.more held (Vals.more content rest)))) =
    record { session = session_in path; value = bytes_in held; content = text_in content }
secret_of values = record { session = record { 0 = 0 }; value = []; content = [] }

abbrev secret_in : Val → ReturnedSecret
secret_in (Val.struct fields) = secret_of fields
secret_in value = secret_of Vals.end

abbrev item_secret_in : Val → ItemSecret
item_secret_in (Val.entry key held) = record { item = text_in key; secret = secret_in held }
item_secret_in value = record { item = []; secret = secret_of Vals.end }

abbrev secrets_in : Vals → List ItemSecret
secrets_in Vals.end = []
secrets_in (Vals.more value values) = item_secret_in value ∷ secrets_in values

abbrev attribute_in : Val → Attribute
attribute_in (Val.entry name value) = record { name = text_in name; value = text_in value }
attribute_in value = record { name = []; value = [] }

abbrev attributes_in : Vals → List Attribute
attributes_in Vals.end = []
attributes_in (Vals.more value values) = attribute_in value ∷ attributes_in values

abbrev elements_shown : Ty → Vals → PropertyValue
elements_shown (Ty.entry key t) elements = shown.Attributes (attributes_in elements)
elements_shown t elements = shown.Objects (texts_in elements)

abbrev shown_in : Val → PropertyValue
shown_in (Val.text b text) = shown.Text text
shown_in (Val.array t elements) = elements_shown t elements
shown_in (Val.number basics.Boolean bit) = shown.Truth (not (bit == 0))
shown_in (Val.number b number) = shown.Moment number
shown_in value = shown.Text []

abbrev held_shown : Val → PropertyValue
held_shown (Val.variant value) = shown_in value
held_shown value = shown_in value

-- the property with a name
abbrev property_named : List ℕ → Property
property_named text =
    if bytes_eq text (property_text property.Collections) then property.Collections else
    if bytes_eq text (property_text property.Items) then property.Items else
    if bytes_eq text (property_text property.Label) then property.Label else
    if bytes_eq text (property_text property.Attributes) then property.Attributes else
    if bytes_eq text (property_text property.Locked) then property.Locked else
    if bytes_eq text (property_text property.Created) then property.Created else property.Modified

abbrev property_in : Val → ShownProperty
property_in (Val.entry name held) = record { property = property_named (text_in name); value = held_shown held }
property_in value = record { property = property.Modified; value = shown.Text [] }

abbrev properties_in : Vals → List ShownProperty
properties_in Vals.end = []
properties_in (Vals.more value values) = property_in value ∷ properties_in values

abbrev array_in : Ty → Vals → Body
array_in (Ty.entry key Ty.variant) elements = body.Properties (properties_in elements)
array_in (Ty.entry key t) elements = body.Secrets (secrets_in elements)
array_in t elements = body.Objects (texts_in elements)

abbrev one_in : Val → Body
one_in (Val.text b text) = body.Object text
one_in (Val.array t elements) = array_in t elements
one_in (Val.struct fields) = body.Secret (secret_of fields)
one_in (Val.variant value) = body.Property (shown_in value)
one_in value = body.Empty

abbrev two_in : Val → Val → Body
two_in (Val.variant value) other = body.Session (session_in other)
two_in (Val.text b text) other = body.ObjectAndPrompt text (prompt_in (text_in other))
two_in (Val.array t elements) (Val.array u others) = body.Found (texts_in elements) (texts_in others)
two_in (Val.array t elements) other = body.ObjectsAndPrompt (texts_in elements) (prompt_in (text_in other))
two_in value other = body.Empty

abbrev body_in : Vals → Body
body_in Vals.end = body.Empty
body_in (Vals.more value Vals.end) = one_in value
body_in (Vals.more value (Vals.more other values)) = two_in value other

texts_again : (texts : List (List ℕ)) → texts_in (path_values texts) ≡ texts
texts_again [] = refl
texts_again (text ∷ texts) = ap (λ (more : List (List ℕ)). text ∷ more) (texts_again texts)

secret_again : (secret : ReturnedSecret) → IsSecret secret → secret_in (secret_value secret) ≡ secret
secret_again secret is =
    ap (λ (n : ℕ). record secret { session = record { 0 = n } }) ((decimal_is_IsNumeral secret.session.0 is.session).1)

secrets_again : (secrets : List ItemSecret) → AreSecrets secrets → secrets_in (secret_values secrets) ≡ secrets
secrets_again [] are = refl
secrets_again (one ∷ secrets) are =
    ap (λ (s : ReturnedSecret). record one { secret = s } ∷ secrets_in (secret_values secrets)) (secret_again one.secret are.1)
    ∙ ap (λ (more : List ItemSecret). one ∷ more) (secrets_again secrets are.2)

prompt_again : (prompt : Option PromptId) → IsPrompt prompt → prompt_in (prompt_text prompt) ≡ prompt
prompt_again None is = refl
prompt_again (Some prompt) is = ap (λ (n : ℕ). Some (record { 0 = n })) ((decimal_is_IsNumeral prompt.0 is).1)

bit_again : (truth : Bool) → not (bit_of truth == 0) ≡ truth
bit_again true = refl
bit_again false = refl

attributes_again : (attributes : List Attribute) → attributes_in (attribute_values attributes) ≡ attributes
attributes_again [] = refl
attributes_again (one ∷ attributes) = ap (λ (more : List Attribute). one ∷ more) (attributes_again attributes)

shown_again : (value : PropertyValue) → shown_in (property_value value) ≡ value
shown_again (shown.Objects objects) = ap shown.Objects (texts_again objects)
shown_again (shown.Text text) = refl
shown_again (shown.Attributes attributes) = ap shown.Attributes (attributes_again attributes)
shown_again (shown.Truth truth) = ap shown.Truth (bit_again truth)
shown_again (shown.Moment seconds) = refl

property_again : (property : Property) → property_named (property_text property) ≡ property
property_again property.Collections = refl
property_again _ = refl

properties_again : (properties : List ShownProperty) → properties_in (shown_values properties) ≡ properties
properties_again [] = refl
properties_again (one ∷ properties) =
    ap (λ (it : Property). record { property = it; value = shown_in (property_value one.value) } ∷ properties_in (shown_values properties)) (property_again one.property)
    ∙ ap (λ (value : PropertyValue). record one { value = value } ∷ properties_in (shown_values properties)) (shown_again one.value)
    ∙ ap (λ (more : List ShownProperty). one ∷ more) (properties_again properties)

body_again : (body : Body) → AreTyped body → body_in (values_of body) ≡ body
body_again (body.Session session) typed = ap (λ n. body.Session (record { 0 = n })) ((decimal_is_IsNumeral session.0 typed).1)
body_again (body.Found unlocked locked) typed =
    ap (λ u. body.Found u (texts_in (path_values locked))) (texts_again unlocked) ∙ ap (body.Found unlocked) (texts_again locked)
body_again (body.ObjectsAndPrompt objects prompt) typed =
    ap (λ them. body.ObjectsAndPrompt them (prompt_in (prompt_text prompt))) (texts_again objects) ∙ ap (body.ObjectsAndPrompt objects) (prompt_again prompt typed.1)
body_again (body.Objects objects) typed = ap body.Objects (texts_again objects)
body_again (body.ObjectAndPrompt object prompt) typed = ap (body.ObjectAndPrompt object) (prompt_again prompt typed.1)
body_again (body.Secret secret) typed = ap body.Secret (secret_again secret typed)
body_again (body.Secrets secrets) typed = ap body.Secrets (secrets_again secrets typed)
body_again (body.Property value) typed = ap body.Property (shown_again value)
body_again (body.Properties properties) typed = ap body.Properties (properties_again properties)
body_again _ typed = refl

one_body : (one other : Body) → AreTyped one → AreTyped other → values_of one ≡ values_of other → one ≡ other
one_body one other fits fit same = sym (body_again one fits) ∙ ap body_in same ∙ body_again other fit

-- ---- the signal with this name, this path and these values

abbrev number_in : Val → ℕ
number_in (Val.number b number) = number
number_in value = 0

abbrev held_in : Val → Val
held_in (Val.variant value) = value
held_in value = value

-- the kind with this word: those of Create and Change differ in their second letter
abbrev kind_in : List ℕ → AskKind
kind_in (first ∷ second ∷ letters) = if first == 117 then kind.Unlock else (if second == 104 then kind.Change else kind.Create)
kind_in word = kind.Create

abbrev completion_in : Val → Completion
completion_in (Val.array t elements) = completion.Objects (texts_in elements)
completion_in value = completion.Object (text_in value)

abbrev elements_of : Val → Vals
elements_of (Val.array t elements) = elements
elements_of value = Vals.end

abbrev names_in : Vals → List Property
names_in Vals.end = []
names_in (Vals.more value values) = property_named (text_in value) ∷ names_in values

-- the object with this interface and this path
abbrev object_in : List ℕ → List ℕ → ChangedObject
object_in interface path =
    if bytes_eq interface (codes "org.freedesktop.Secret.Service") then changed.Service else
    if bytes_eq interface (codes "org.freedesktop.Secret.Collection") then changed.Collection path else changed.Item path

abbrev first_text : Vals → List ℕ
first_text Vals.end = []
first_text (Vals.more value values) = text_in value

abbrev ask_in : Vals → Signal
ask_in (Vals.more prompt (Vals.more round (Vals.more kind (Vals.more label (Vals.more wrong values))))) =
    signal.Ask (prompt_at (text_in prompt)) (number_in round) (kind_in (text_in kind)) (text_in label) (number_in wrong)
ask_in values = signal.CollectionChanged []

abbrev completed_in : List ℕ → Vals → Signal
completed_in path (Vals.more dismissed (Vals.more result values)) = signal.Completed (prompt_at path) (not (number_in dismissed == 0)) (completion_in (held_in result))
completed_in path values = signal.CollectionChanged []

abbrev changed_in : List ℕ → Vals → Signal
changed_in path (Vals.more interface (Vals.more properties (Vals.more names values))) =
    signal.PropertiesChanged (object_in (text_in interface) path) (properties_in (elements_of properties)) (names_in (elements_of names))
changed_in path values = signal.CollectionChanged []

abbrev signal_in : List ℕ → List ℕ → Vals → Signal
signal_in name path values =
    if bytes_eq name (codes "Ask") then ask_in values else
    if bytes_eq name (codes "Completed") then completed_in path values else
    if bytes_eq name (codes "CollectionCreated") then signal.CollectionCreated (first_text values) else
    if bytes_eq name (codes "CollectionDeleted") then signal.CollectionDeleted (first_text values) else
    if bytes_eq name (codes "CollectionChanged") then signal.CollectionChanged (first_text values) else
    if bytes_eq name (codes "ItemCreated") then signal.ItemCreated path (first_text values) else
    if bytes_eq name (codes "ItemDeleted") then signal.ItemDeleted path (first_text values) else
    if bytes_eq name (codes "ItemChanged") then signal.ItemChanged path (first_text values) else changed_in path values

kind_again : (kind : AskKind) → kind_in (kind_text kind) ≡ kind
kind_again kind.Unlock = refl
kind_again kind.Create = refl
kind_again kind.Change = refl

completion_again : (result : Completion) → completion_in (completion_value result) ≡ result
completion_again (completion.Objects objects) = ap completion.Objects (texts_again objects)
completion_again (completion.Object object) = refl

at_again : (prompt : PromptId) → prompt.0 < 2 ^ 64 → prompt_at (prompt_path prompt.0) ≡ prompt
at_again prompt fits = ap (λ (n : ℕ). record { 0 = n }) ((decimal_is_IsNumeral prompt.0 fits).1)

object_again : (object : ChangedObject) → object_in (changed_interface object) (changed_path object) ≡ object
object_again changed.Service = refl
object_again (changed.Collection collection) = refl
object_again (changed.Item item) = refl

names_again : (names : List Property) → names_in (name_values names) ≡ names
names_again [] = refl
names_again (one ∷ names) =
    ap (λ (it : Property). it ∷ names_in (name_values names)) (property_again one) ∙ ap (λ (more : List Property). one ∷ more) (names_again names)

signal_again : (signal : Signal) → IsSignal signal → signal_in (signal_name signal) (emitter signal) (signal_values signal) ≡ signal
signal_again (signal.Ask prompt round kind label wrong) is =
    ap (λ p. signal.Ask p round (kind_in (kind_text kind)) label wrong) (at_again prompt is.0)
    ∙ ap (λ k. signal.Ask prompt round k label wrong) (kind_again kind)
signal_again (signal.Completed prompt dismissed result) is =
    ap (λ p. signal.Completed p (not (bit_of dismissed == 0)) (completion_in (completion_value result))) (at_again prompt is.0)
    ∙ ap (λ d. signal.Completed prompt d (completion_in (completion_value result))) (bit_again dismissed)
    ∙ ap (signal.Completed prompt dismissed) (completion_again result)
signal_again (signal.CollectionCreated collection) is = refl
signal_again (signal.CollectionDeleted collection) is = refl
signal_again (signal.CollectionChanged collection) is = refl
signal_again (signal.ItemCreated collection item) is = refl
signal_again (signal.ItemDeleted collection item) is = refl
signal_again (signal.ItemChanged collection item) is = refl
signal_again (signal.PropertiesChanged object properties invalidated) is =
    ap (λ o. signal.PropertiesChanged o (properties_in (shown_values properties)) (names_in (name_values invalidated))) (object_again object)
    ∙ ap (λ them. signal.PropertiesChanged object them (names_in (name_values invalidated))) (properties_again properties)
    ∙ ap (signal.PropertiesChanged object properties) (names_again invalidated)

one_signal : (one other : Signal) → IsSignal one → IsSignal other → signal_name one ≡ signal_name other → emitter one ≡ emitter other → signal_values one ≡ signal_values other → one ≡ other
one_signal one other is are name path values =
    sym (signal_again one is) ∙ ap (λ n. signal_in n (emitter one) (signal_values one)) name ∙ ap (λ p. signal_in (signal_name other) p (signal_values one)) path
    ∙ ap (signal_in (signal_name other) (emitter other)) values ∙ signal_again other are

-- ---- names of errors

-- the error with a name
abbrev which : List ℕ → ErrorName
which text =
    if bytes_eq text (error_text name.NotSupported) then name.NotSupported else
    if bytes_eq text (error_text name.UnknownObject) then name.UnknownObject else
    if bytes_eq text (error_text name.UnknownInterface) then name.UnknownInterface else
    if bytes_eq text (error_text name.UnknownMethod) then name.UnknownMethod else
    if bytes_eq text (error_text name.UnknownProperty) then name.UnknownProperty else
    if bytes_eq text (error_text name.PropertyReadOnly) then name.PropertyReadOnly else
    if bytes_eq text (error_text name.InvalidArgs) then name.InvalidArgs else
    if bytes_eq text (error_text name.LimitsExceeded) then name.LimitsExceeded else
    if bytes_eq text (error_text name.IOError) then name.IOError else
    if bytes_eq text (error_text name.IsLocked) then name.IsLocked else
    if bytes_eq text (error_text name.AccessDenied) then name.AccessDenied else
    if bytes_eq text (error_text name.NoSession) then name.NoSession else
    if bytes_eq text (error_text name.NoSuchObject) then name.NoSuchObject else
    if bytes_eq text (error_text name.AgentTaken) then name.AgentTaken else name.OldRound

-- an error's name is a short text, an error name, and that of no other error
record IsNamed (name : ErrorName) : Type 0 where
  plain : All IsPlain (error_text name)
  short : length (error_text name) ≤ 255
  formed : is_interface_name (error_text name) ≡ true
  alone : which (error_text name) ≡ name

named : (name : ErrorName) → IsNamed name
named name.NotSupported = record { plain = plain_literal (error_text name.NotSupported) refl; short = omega arith; formed = refl; alone = refl }
named name = record { plain = plain_literal (error_text name) refl; short = omega arith; formed = refl; alone = refl }

is_name : (name : ErrorName) → IsName (error_text name)
is_name name = ((plain_text (error_text name) (named name).plain, omega (arith, (named name).short)), (named name).formed)

one_error : (one other : ErrorName) → error_text one ≡ error_text other → one ≡ other
one_error one other same = sym (named one).alone ∙ ap which same ∙ (named other).alone

-- ---- each output

-- the fields of an output are few
fields_short : (out : Out) (serial : ℕ) → IsTyped out → length (all_spelled Little (fields_of (sent out serial)) 0) ≤ array_limit
unfolding number_bytes
fields_short (out.Return to body.Empty) serial typed = omega arith
fields_short (out.Return to _) serial typed = omega arith
fields_short (out.Error to name.NotSupported) serial typed = omega arith
fields_short (out.Error to _) serial typed = omega arith
fields_short (out.Signal (signal.Ask prompt round kind label wrong)) serial typed = omega arith
fields_short (out.Signal (signal.Completed prompt dismissed result)) serial typed =
    omega (arith, prompt-short prompt typed.0, (fields-most (prompt_path prompt.0) (codes "org.freedesktop.Secret.Prompt") (codes "Completed") 98 (codes "v")).few 0)
fields_short (out.Signal (signal.CollectionCreated collection)) serial typed = omega arith
fields_short (out.Signal (signal.CollectionDeleted collection)) serial typed = omega arith
fields_short (out.Signal (signal.CollectionChanged collection)) serial typed = omega arith
fields_short (out.Signal (signal.ItemCreated collection item)) serial typed =
    omega (arith, typed.0.short, (fields-most collection (codes "org.freedesktop.Secret.Collection") (codes "ItemCreated") 111 []).few 0)
fields_short (out.Signal (signal.ItemDeleted collection item)) serial typed =
    omega (arith, typed.0.short, (fields-most collection (codes "org.freedesktop.Secret.Collection") (codes "ItemDeleted") 111 []).few 0)
fields_short (out.Signal (signal.ItemChanged collection item)) serial typed =
    omega (arith, typed.0.short, (fields-most collection (codes "org.freedesktop.Secret.Collection") (codes "ItemChanged") 111 []).few 0)
fields_short (out.Signal (signal.PropertiesChanged object properties invalidated)) serial typed =
    omega (arith, changed-short object typed.0, (fields-most (changed_path object) (codes "org.freedesktop.DBus.Properties") (codes "PropertiesChanged") 115 (codes "a{sv}as")).few 0)

-- the header of a reply of this type, with this error's name, if any
has_header : (kind serial : ℕ) (to : Serial) (name : Option (List ℕ)) → 0 < kind → kind < 256 → IsSerial serial → IfSome name IsName
    → HasHeader (record (bare_header kind 1 serial) { error_name = name; reply_serial = Some to.number })
has_header kind serial to name some few numbered named = record {
  typed = λ e. omega (arith, some, e);
  kind = omega (arith, few);
  flags = omega arith;
  serial = numbered;
  path = tt;
  interface = tt;
  member = tt;
  error_name = named;
  reply_serial = (to.some, omega (arith, to.fits));
  destination = tt;
  sender = tt;
}

-- the header of a signal
has_emitter : (serial : ℕ) (path interface name : List ℕ) → IsSerial serial → IsTextOf basics.ObjectPath path → IsName interface → IsMember name
    → HasHeader (record (bare_header 4 1 serial) { path = Some path; interface = Some interface; member = Some name })
has_emitter serial path interface name numbered emitted formed named = record {
  typed = λ e. omega (arith, e);
  kind = omega arith;
  flags = omega arith;
  serial = numbered;
  path = emitted;
  interface = formed;
  member = named;
  error_name = tt;
  reply_serial = tt;
  destination = tt;
  sender = tt;
}

-- a path that emits a signal
emitter_is : (path : List ℕ) → IsEmitter path → IsTextOf basics.ObjectPath path
emitter_is path is = (path_fits 64 path is.formed (omega (arith, is.short))).1

service_is : IsTextOf basics.ObjectPath service_path
service_is = ((plain_text service_path (plain_literal service_path refl), omega arith), refl)

object_is : (object : ChangedObject) → IsChanged object → IsTextOf basics.ObjectPath (changed_path object)
object_is changed.Service is = service_is
object_is (changed.Collection collection) is = emitter_is collection is
object_is (changed.Item item) is = emitter_is item is

-- the name of an interface, or that of a signal
interface_is : (text : List ℕ) → list_all (λ byte. nat_lt 0 byte && nat_lt byte 128) text ≡ true → length text ≤ 255 → is_interface_name text ≡ true → IsName text
interface_is text plain short formed = ((plain_text text (plain_literal text plain), omega (arith, short)), formed)

member_is : (text : List ℕ) → list_all (λ byte. nat_lt 0 byte && nat_lt byte 128) text ≡ true → length text ≤ 255 → is_member_name text ≡ true → IsMember text
member_is text plain short formed = ((plain_text text (plain_literal text plain), omega (arith, short)), formed)

-- the header of a signal of the service, and of one of a collection
of_service : (serial : ℕ) (name : List ℕ) → IsSerial serial → IsMember name
    → HasHeader (record (bare_header 4 1 serial) { path = Some service_path; interface = Some (codes "org.freedesktop.Secret.Service"); member = Some name })
of_service serial name numbered named =
    let interface = codes "org.freedesktop.Secret.Service" in
    has_emitter serial service_path interface name numbered service_is (interface_is interface refl (omega arith) refl) named

of_collection : (serial : ℕ) (path name : List ℕ) → IsSerial serial → IsEmitter path → IsMember name
    → HasHeader (record (bare_header 4 1 serial) { path = Some path; interface = Some (codes "org.freedesktop.Secret.Collection"); member = Some name })
of_collection serial path name numbered is named =
    let interface = codes "org.freedesktop.Secret.Collection" in
    has_emitter serial path interface name numbered (emitter_is path is) (interface_is interface refl (omega arith) refl) named

signal_header : (serial : ℕ) → IsSerial serial → (signal : Signal) → IsSignal signal → HasHeader (header_of (out.Signal signal) serial)
signal_header serial numbered (signal.Ask prompt round kind label wrong) is =
    let path = codes "/org/freedesktop/secrets/agent" in
    let interface = codes "org.keyringd.Agent1" in
    has_emitter serial path interface (codes "Ask") numbered ((plain_text path (plain_literal path refl), omega arith), refl)
    (interface_is interface refl (omega arith) refl) (member_is (codes "Ask") refl (omega arith) refl)
signal_header serial numbered (signal.Completed prompt dismissed result) is =
    let interface = codes "org.freedesktop.Secret.Prompt" in
    has_emitter serial (prompt_path prompt.0) interface (codes "Completed") numbered (prompt_fits 64 (Some prompt) is.0).1
    (interface_is interface refl (omega arith) refl) (member_is (codes "Completed") refl (omega arith) refl)
signal_header serial numbered (signal.CollectionCreated collection) is =
    of_service serial (codes "CollectionCreated") numbered (member_is (codes "CollectionCreated") refl (omega arith) refl)
signal_header serial numbered (signal.CollectionDeleted collection) is =
    of_service serial (codes "CollectionDeleted") numbered (member_is (codes "CollectionDeleted") refl (omega arith) refl)
signal_header serial numbered (signal.CollectionChanged collection) is =
    of_service serial (codes "CollectionChanged") numbered (member_is (codes "CollectionChanged") refl (omega arith) refl)
signal_header serial numbered (signal.ItemCreated collection item) is =
    of_collection serial collection (codes "ItemCreated") numbered is.0 (member_is (codes "ItemCreated") refl (omega arith) refl)
signal_header serial numbered (signal.ItemDeleted collection item) is =
    of_collection serial collection (codes "ItemDeleted") numbered is.0 (member_is (codes "ItemDeleted") refl (omega arith) refl)
signal_header serial numbered (signal.ItemChanged collection item) is =
    of_collection serial collection (codes "ItemChanged") numbered is.0 (member_is (codes "ItemChanged") refl (omega arith) refl)
signal_header serial numbered (signal.PropertiesChanged object properties invalidated) is =
    let interface = codes "org.freedesktop.DBus.Properties" in
    has_emitter serial (changed_path object) interface (codes "PropertiesChanged") numbered (object_is object is.0)
    (interface_is interface refl (omega arith) refl) (member_is (codes "PropertiesChanged") refl (omega arith) refl)

header_is : (serial : ℕ) → IsSerial serial → (out : Out) → IsTyped out → HasHeader (header_of out serial)
header_is serial numbered (out.Return to body) typed = has_header 2 serial to None (omega arith) (omega arith) numbered tt
header_is serial numbered (out.Error to name) typed = has_header 3 serial to (Some (error_text name)) (omega arith) (omega arith) numbered (is_name name)
header_is serial numbered (out.Signal signal) typed = signal_header serial numbered signal typed

needed : (serial : ℕ) (out : Out) → IsTrue (has_needed (header_of out serial).kind (fields_read (sent out serial)))
needed serial (out.Return to body) = refl
needed serial (out.Error to name) = refl
needed serial (out.Signal signal) = refl

can_be_sent : (most serial : ℕ) (out : Out) → IsSendable most out serial → CanBeSent (sent out serial)
can_be_sent most serial out is =
    let are = sent_is out is.has in
    record {
      header = header_is serial (is.numbered, omega (arith, is.serial_fits)) out is.has.typed;
      needed = needed serial out;
      listed = are.listed;
      spelled = are.spelled;
      arrays = are.arrays;
      fields_short = fields_short out serial is.has.typed;
      body_short = omega (arith, is.has.short);
    }

pub sent_again : (most serial : ℕ) (out : Out) → IsSendable most out serial → IsMessage most (spelled out serial) (said out serial)
sent_again most serial out is = sent_is_message most (sent out serial) (can_be_sent most serial out is) is.short

-- two outputs that say the same are the same
one_out : (serial again : ℕ) (one other : Out) → IsTyped one → IsTyped other → said one serial ≡ said other again → one ≡ other
one_out serial again (out.Return to body) (out.Return too other) is are same =
    ap (λ n. out.Return n body) (one_serial to too (ap (λ (p : Parts). unwrap_or p.reply_serial 0) same))
    ∙ ap (λ b. out.Return too b) (one_body body other is are (ap (λ (p : Parts). p.body) same))
one_out serial again (out.Return to body) (out.Error too name) is are same = absurd (omega (arith, ap (λ (p : Parts). p.kind) same))
one_out serial again (out.Return to body) (out.Signal signal) is are same = absurd (omega (arith, ap (λ (p : Parts). p.kind) same))
one_out serial again (out.Error to name) (out.Return too body) is are same = absurd (omega (arith, ap (λ (p : Parts). p.kind) same))
one_out serial again (out.Error to name) (out.Error too other) is are same =
    ap (λ n. out.Error n name) (one_serial to too (ap (λ (p : Parts). unwrap_or p.reply_serial 0) same))
    ∙ ap (λ n. out.Error too n) (one_error name other (ap (λ (p : Parts). unwrap_or p.error_name []) same))
one_out serial again (out.Error to name) (out.Signal signal) is are same = absurd (omega (arith, ap (λ (p : Parts). p.kind) same))
one_out serial again (out.Signal signal) (out.Return too body) is are same = absurd (omega (arith, ap (λ (p : Parts). p.kind) same))
one_out serial again (out.Signal signal) (out.Error too name) is are same = absurd (omega (arith, ap (λ (p : Parts). p.kind) same))
one_out serial again (out.Signal signal) (out.Signal other) is are same =
    ap out.Signal (one_signal signal other is are (ap (λ (p : Parts). unwrap_or p.member []) same) (ap (λ (p : Parts). unwrap_or p.path []) same) (ap (λ (p : Parts). p.body) same))

numbered : (serial : ℕ) (out : Out) → (said out serial).serial ≡ serial
numbered serial (out.Return to body) = refl
numbered serial (out.Error to name) = refl
numbered serial (out.Signal signal) = refl

one_number : (serial again : ℕ) (one other : Out) → said one serial ≡ said other again → serial ≡ again
one_number serial again one other same = sym (numbered serial one) ∙ ap (λ (p : Parts). p.serial) same ∙ numbered again other

-- and have the same serial
pub one_output : (serial again : ℕ) (one other : Out) → IsTyped one → IsTyped other → said one serial ≡ said other again → (one ≡ other) × (serial ≡ again)
one_output serial again one other is are same = (one_out serial again one other is are same, one_number serial again one other same)
