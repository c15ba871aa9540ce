-- The message of a call can be sent.
use Rattle.std.proofs.Common.{◌≡◌, ℕ, suc, ◌%◌, ◌≤◌, Bool, true, false, IsTrue, List, [], ◌∷◌, ◌++◌, map, length, Option, Some, None, IfSome, refl, ap, arith, length-append}
use Rattle.std.specs.Int.{w32}
use Rattle.kr_base.specs.declared.attributes.AttrValue.{AttrValue}
use Rattle.kr_base.specs.declared.attributes.AttrValue.TheVariants as value
use Rattle.kr_base.specs.declared.ids.PromptId.{PromptId}
use Rattle.kr_base.specs.declared.ids.SessionId.{SessionId}
use Rattle.kr_names.specs.declared.object_name.ObjectName.{ObjectName}
use Rattle.kr_names.specs.declared.object_name.ObjectName.TheVariants as name
use Rattle.kr_names.specs.Path.{path_text, sessions, prompts, IsAliasName, IsName}
use Rattle.kr_names.proofs.EscapeLemmas.{path_bytes_plain}
use Rattle.dbus_types.specs.declared.complete_type.BasicType.TheVariants as basics
use Rattle.dbus_types.specs.declared.endian.Endian.TheVariants.{Little}
use Rattle.dbus_types.specs.Paths.{is_object_path}
use Rattle.dbus_types.specs.Types.{Ty, is_signature}
use Rattle.dbus_types.specs.Values.{Val, Vals, tys_of}
use Rattle.dbus_types.specs.ValueViews.{bit_of}
use Rattle.dbus_marshal.specs.Limits.{array_limit}
use Rattle.dbus_marshal.specs.Wire.{IsString, zeros, padding, number_bytes}
use Rattle.dbus_marshal.specs.Spelling.{all_spelled}
use Rattle.dbus_marshal.specs.Fitting.{Fits, AllFit, EachFits, HaveSpelling}
use Rattle.dbus_marshal.specs.Putting.{padded}
use Rattle.dbus_framing.specs.Messages.{IsMessage}
use Rattle.dbus_sending.specs.Sent as sending
use Rattle.dbus_sending.specs.Sent.{Sent, IsMember, IsSerial, HasHeader, CanBeSent, fields_of, header_of, spelled_message}
use Rattle.dbus_sending.proofs.MessageLemmas.{sent_is_message}
use Rattle.secret_calls.specs.declared.call.Call.{Call}
use Rattle.secret_calls.specs.declared.call.Call.TheVariants as call
use Rattle.secret_calls.specs.declared.secret.Secret.{Secret}
use Rattle.secret_calls.specs.declared.property.Property.{Property}
use Rattle.secret_calls.specs.declared.property.Property.TheVariants as property
use Rattle.secret_calls.specs.Outs.{path_values, property_text}
use Rattle.call_wire.specs.declared.interfaces.Interface.{Interface}
use Rattle.call_wire.specs.declared.interfaces.Interface.TheVariants as interface
use Rattle.call_wire.specs.Interfaces.{interface_name}
use Rattle.call_wire.specs.Service as service
use Rattle.call_wire.specs.Collection as collection
use Rattle.client_core.specs.Arguments.{text_value, path_value, session_text, prompt_text, object_text, alias_text, attribute_values, own_interface, arguments_of}
use Rattle.client_core.specs.Askable.{IsSessionName, IsPromptName, IsGiven, AreNames, ArePairs, HasArguments, CanBeAsked}
use Rattle.client_core.specs.Asked.{object_of, interface_of, method_name, sent, spelled, said, most_bytes}
use Rattle.client_core.proofs.TextLemmas.{plain_text, literal_text, path_is, name_is, string_is}
use Rattle.client_core.proofs.FitLemmas.{AllWithin, all_within, all_short}

-- ---- arguments

session_is : (session : Option SessionId) → IsSessionName session → is_object_path (session_text session) ≡ true
unfolding sessions
session_is None is = refl
session_is (Some session) is = name_is (name.Session session) is

prompt_is : (prompt : Option PromptId) → IsPromptName prompt → is_object_path (prompt_text prompt) ≡ true
unfolding prompts
prompt_is None is = refl
prompt_is (Some prompt) is = name_is (name.Prompt prompt) is

object_is : (object : Option ObjectName) → IfSome object IsName → is_object_path (object_text object) ≡ true
object_is None is = refl
object_is (Some object) is = name_is object is

alias_is : (alias : List ℕ) → IsAliasName alias → IsString alias
alias_is alias is = (plain_text alias (path_bytes_plain alias is.bytes), omega (arith, is.fits))

wanted_is : (alias : Option (List ℕ)) → IfSome alias IsAliasName → IsString (alias_text alias)
wanted_is None is = (literal_text [] refl, omega arith)
wanted_is (Some alias) is = alias_is alias is

empty_is : IsString []
empty_is = (literal_text [] refl, omega arith)

bit_fits : (depth : ℕ) (truth : Bool) → Fits depth (Ty.basic basics.Boolean) (Val.number basics.Boolean (bit_of truth))
bit_fits depth true = (refl, omega arith)
bit_fits depth false = (refl, omega arith)

paths_fit : (depth : ℕ) (names : List ObjectName) → AreNames names → AllWithin array_limit (path_values (map path_text names))
    → EachFits depth (Ty.basic basics.ObjectPath) (path_values (map path_text names))
paths_fit depth [] are few = tt
paths_fit depth (name ∷ names) are few = ((refl, path_is (path_text name) (name_is name are.0) few.0), paths_fit depth names are.1 few.1)

pairs_fit : (fewer : ℕ) (pairs : List (List ℕ × AttrValue)) → ArePairs pairs → AllWithin array_limit (attribute_values pairs)
    → EachFits (suc fewer) (Ty.entry basics.String (Ty.basic basics.String)) (attribute_values pairs)
pairs_fit fewer [] are few = tt
pairs_fit fewer ((key, value.Text text) ∷ pairs) are few =
    (((refl, string_is key are.0 few.0.0), (refl, string_is text are.1 few.0.1)), pairs_fit fewer pairs are.2 few.1)
pairs_fit fewer ((key, value.Number number) ∷ pairs) are few = absurd are

-- the fields of a secret
abbrev fields : Secret → Vals
fields secret =
    Vals.more (path_value (session_text secret.session)) (Vals.more (Val.bytes [])
    (Vals.more (Val.bytes secret.value) (Vals.more (text_value secret.content) Vals.end)))

secret_fits : (fewer : ℕ) (secret : Secret) → IsGiven secret → AllWithin array_limit (fields secret) → AllFit (suc fewer) (tys_of (fields secret)) (fields secret)
secret_fits fewer secret is few = (
  (refl, path_is (session_text secret.session) (session_is secret.session is.session) few.0),
  ((refl, tt), ((refl, is.value), ((refl, string_is secret.content is.content few.1.1.1.0), tt))),
)

-- a body that is short enough for an array
abbrev IsShort : Vals → Type 0
IsShort values = length (all_spelled Little values 0) ≤ array_limit

-- the values of a body have a signature and a spelling
record AreBody (values : Vals) : Type 0 where
  listed : IsTrue (is_signature (tys_of values))
  spelled : HaveSpelling values

none_are : AreBody Vals.end
none_are = record { listed = refl; spelled = tt }

-- the names of interfaces and of properties
interface_text : (it : Interface) → IsString (interface_name it)
interface_text interface.Service = (literal_text (interface_name interface.Service) refl, omega arith)
interface_text it = (literal_text (interface_name it) refl, omega arith)

property_is : (it : Property) → IsString (property_text it)
property_is property.Collections = (literal_text (property_text property.Collections) refl, omega arith)
property_is it = (literal_text (property_text it) refl, omega arith)

arguments_are : (call : Call) → HasArguments call → IsShort (arguments_of call) → AreBody (arguments_of call)
arguments_are (call.OpenSession algorithm) has short =
    let few = all_within array_limit (arguments_of (call.OpenSession algorithm)) 0 short in
    record { listed = refl; spelled = ((refl, string_is algorithm has few.0), ((refl, (refl, empty_is)), tt)) }
arguments_are (call.CreateCollection label alias) has short =
    let few = all_within array_limit (arguments_of (call.CreateCollection label alias)) 0 short in
    record {
      listed = refl;
      spelled = (
        (refl, (((refl, (literal_text service.label_name refl, omega arith)), (refl, (refl, string_is label has.0 few.0.0.1))), tt), refl),
        ((refl, wanted_is alias has.1), tt),
      );
    }
arguments_are (call.SearchItems wanted) has short =
    let few = all_within array_limit (arguments_of (call.SearchItems wanted)) 0 short in
    record { listed = refl; spelled = ((refl, pairs_fit 62 wanted has.texts few.0, refl), tt) }
arguments_are (call.Unlock objects) has short =
    let few = all_within array_limit (arguments_of (call.Unlock objects)) 0 short in
    record { listed = refl; spelled = ((refl, paths_fit 63 objects has few.0, refl), tt) }
arguments_are (call.Lock objects) has short =
    let few = all_within array_limit (arguments_of (call.Lock objects)) 0 short in
    record { listed = refl; spelled = ((refl, paths_fit 63 objects has few.0, refl), tt) }
arguments_are (call.GetSecrets items session) has short =
    let few = all_within array_limit (arguments_of (call.GetSecrets items session)) 0 short in
    record {
      listed = refl;
      spelled = ((refl, paths_fit 63 items has.0 few.0, refl), ((refl, path_is (session_text session) (session_is session has.1) few.1.0), tt));
    }
arguments_are (call.ReadAlias name) has short =
    let few = all_within array_limit (arguments_of (call.ReadAlias name)) 0 short in
    record { listed = refl; spelled = ((refl, string_is name has few.0), tt) }
arguments_are (call.SetAlias alias object) has short =
    let few = all_within array_limit (arguments_of (call.SetAlias alias object)) 0 short in
    record { listed = refl; spelled = ((refl, alias_is alias has.0), ((refl, path_is (object_text object) (object_is object has.1) few.1.0), tt)) }
arguments_are (call.SearchCollection collection wanted) has short =
    let few = all_within array_limit (arguments_of (call.SearchCollection collection wanted)) 0 short in
    record { listed = refl; spelled = ((refl, pairs_fit 62 wanted has.1.texts few.0, refl), tt) }
arguments_are (call.CreateItem target label attributes secret replace) has short =
    let few = all_within array_limit (arguments_of (call.CreateItem target label attributes secret replace)) 0 short in
    record {
      listed = refl;
      spelled = (
        (
          refl,
          (
            ((refl, (literal_text collection.label_name refl, omega arith)), (refl, (refl, string_is label has.1 few.0.0.1))),
            (((refl, (literal_text collection.attributes_name refl, omega arith)), (refl, (refl, pairs_fit 59 attributes has.2.texts few.0.1.0.1, refl))), tt),
          ),
          refl,
        ),
        (secret_fits 62 secret has.3 few.1.0, (bit_fits 64 replace, tt)),
      );
    }
arguments_are (call.GetSecret stem item session) has short =
    let few = all_within array_limit (arguments_of (call.GetSecret stem item session)) 0 short in
    record { listed = refl; spelled = ((refl, path_is (session_text session) (session_is session has) few.0), tt) }
arguments_are (call.SetSecret stem item secret) has short =
    let few = all_within array_limit (arguments_of (call.SetSecret stem item secret)) 0 short in
    record { listed = refl; spelled = (secret_fits 62 secret has few.0, tt) }
arguments_are (call.Get object property) has short =
    record { listed = refl; spelled = ((refl, interface_text (own_interface object)), ((refl, property_is property), tt)) }
arguments_are (call.GetAll object properties) has short = record { listed = refl; spelled = ((refl, interface_text (own_interface object)), tt) }
arguments_are (call.SetCollectionLabel collection label) has short =
    let few = all_within array_limit (arguments_of (call.SetCollectionLabel collection label)) 0 short in
    record {
      listed = refl;
      spelled = ((refl, interface_text interface.Collection), ((refl, property_is property.Label), ((refl, (refl, string_is label has.1 few.1.1.0)), tt)));
    }
arguments_are (call.SetItemLabel stem item label) has short =
    let few = all_within array_limit (arguments_of (call.SetItemLabel stem item label)) 0 short in
    record {
      listed = refl;
      spelled = ((refl, interface_text interface.Item), ((refl, property_is property.Label), ((refl, (refl, string_is label has few.1.1.0)), tt)));
    }
arguments_are (call.SetAttributes stem item attributes) has short =
    let few = all_within array_limit (arguments_of (call.SetAttributes stem item attributes)) 0 short in
    record {
      listed = refl;
      spelled = (
        (refl, interface_text interface.Item),
        ((refl, property_is property.Attributes), ((refl, (refl, pairs_fit 61 attributes has.texts few.1.1.0, refl)), tt)),
      );
    }
arguments_are (call.Prompt prompt) has short = record { listed = refl; spelled = ((refl, empty_is), tt) }
arguments_are (call.Answer prompt round password) has short =
    let few = all_within array_limit (arguments_of (call.Answer prompt round password)) 0 short in
    record {
      listed = refl;
      spelled = ((refl, path_is (prompt_text prompt) (prompt_is prompt has.0) few.0), ((refl, has.1), ((refl, has.2), tt)));
    }
arguments_are (call.Refuse prompt round) has short =
    let few = all_within array_limit (arguments_of (call.Refuse prompt round)) 0 short in
    record { listed = refl; spelled = ((refl, path_is (prompt_text prompt) (prompt_is prompt has.0) few.0), ((refl, has.1), tt)) }
arguments_are call has short = none_are

-- ---- the header

interface_is : (it : Interface) → sending.IsName (interface_name it)
interface_is interface.Service = ((literal_text (interface_name interface.Service) refl, omega arith), refl)
interface_is it = ((literal_text (interface_name it) refl, omega arith), refl)

method_is : (call : Call) → IsMember (method_name call)
method_is call.Ping = ((literal_text (method_name call.Ping) refl, omega arith), refl)
method_is call = ((literal_text (method_name call) refl, omega arith), refl)

-- the bytes before the fields
abbrev front : Sent → List ℕ
front sent =
    108 ∷ (sent.header.kind % 256) ∷ (sent.header.flags % 256) ∷ 1 ∷ (number_bytes Little w32 (length (all_spelled Little sent.body 0))
    ++ (number_bytes Little w32 sent.header.serial ++ number_bytes Little w32 (length (all_spelled Little (fields_of sent) 0))))

header_parts : (sent : Sent) → all_spelled Little (header_of sent) 0 ≡ front sent ++ (all_spelled Little (fields_of sent) 0 ++ [])
unfolding number_bytes
header_parts sent = refl

-- the body is not longer than the message
body_few : (sent : Sent) → length (all_spelled Little sent.body 0) ≤ length (spelled_message sent)
body_few sent =
    omega (arith, length-append (padded 8 (all_spelled Little (header_of sent) 0)) (all_spelled Little sent.body 0))

-- nor are the fields
fields_few : (sent : Sent) → length (all_spelled Little (fields_of sent) 0) ≤ length (spelled_message sent)
fields_few sent =
    let F = all_spelled Little (fields_of sent) 0 in
    let H = all_spelled Little (header_of sent) 0 in
    let Z = zeros (padding 8 (length H % 8)) in
    let long : length H ≡ length (front sent ++ (F ++ [])) = ap (λ (l : List ℕ). length l) (header_parts sent) in
    omega (arith, long, length-append (front sent) (F ++ []), length-append F [], length-append H Z, length-append (H ++ Z) (all_spelled Little sent.body 0))

header_is : (serial : ℕ) (call : Call) → IsSerial serial → CanBeAsked call → length (all_spelled Little (fields_of (sent call serial)) 0) ≤ array_limit
    → HasHeader (sent call serial).header
header_is serial call numbered can short =
    let few = all_within array_limit (fields_of (sent call serial)) 0 short in
    record {
      typed = λ e. omega (arith, e);
      kind = omega arith;
      flags = omega arith;
      serial = numbered;
      path = path_is (path_text (object_of call)) (name_is (object_of call) can.object) few.0.1.0;
      interface = interface_is (interface_of call);
      member = method_is call;
      error_name = tt;
      reply_serial = tt;
      destination = tt;
      sender = tt;
    }

can_be_sent : (serial : ℕ) (call : Call) → IsSerial serial → CanBeAsked call → length (spelled call serial) ≤ most_bytes → CanBeSent (sent call serial)
can_be_sent serial call numbered can short =
    let body : length (all_spelled Little (arguments_of call) 0) ≤ array_limit = omega (arith, short, body_few (sent call serial)) in
    let fields : length (all_spelled Little (fields_of (sent call serial)) 0) ≤ array_limit = omega (arith, short, fields_few (sent call serial)) in
    let are = arguments_are call can.arguments body in
    record {
      header = header_is serial call numbered can fields;
      needed = refl;
      listed = are.listed;
      spelled = are.spelled;
      arrays = all_short (arguments_of call) 0 body;
      fields_short = fields;
      body_short = omega (arith, body);
    }

-- its bytes are a message that says what was asked
pub asked_is_message : (serial : ℕ) (call : Call) → CanBeAsked call → IsSerial serial → length (spelled call serial) ≤ most_bytes
    → IsMessage most_bytes (spelled call serial) (said call serial)
asked_is_message serial call can numbered short = sent_is_message most_bytes (sent call serial) (can_be_sent serial call numbered can short) short
