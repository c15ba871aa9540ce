-- The calls of a load can be asked, and their messages are small.
use Rattle.std.proofs.Common.{◌≡◌, ◌≢◌, ℕ, zero, suc, ◌+◌, ◌*◌, ◌%◌, ◌^◌, ◌<◌, ◌≤◌, List, [], ◌∷◌, ◌++◌, length, Some, None, codes, decimal, refl, arith, length-append}
use Rattle.std.specs.Int.{w32}
use Rattle.std.specs.List.{All, AllByRecursion}
use Rattle.std.proofs.lemmas.Fmt.{length-decimal-le}
use Rattle.std.proofs.lemmas.List.Elements.{All-contains, All-from_recursion}
use Rattle.kr_base.specs.declared.attributes.AttrValue.TheVariants as value
use Rattle.kr_base.specs.Stem.{IsStem}
use Rattle.kr_names.specs.Path.{agent, collections, path_text, prompts, service}
use Rattle.kr_names.specs.Escape.{escaped}
use Rattle.kr_names.specs.declared.object_name.ObjectName.TheVariants as name
use Rattle.dbus_types.specs.declared.complete_type.BasicType.{BasicType}
use Rattle.dbus_types.specs.declared.complete_type.BasicType.TheVariants as basics
use Rattle.dbus_types.specs.declared.endian.Endian.TheVariants.{Little}
use Rattle.dbus_types.specs.Types.{Ty}
use Rattle.dbus_types.specs.Values.{Val, Vals}
use Rattle.dbus_marshal.specs.Wire.{AreBytes, padding, behind, start_of, zeros, number_bytes}
use Rattle.dbus_marshal.specs.Putting.{padded}
use Rattle.dbus_marshal.specs.Spelling.{all_spelled, first_at, spelled}
use Rattle.dbus_marshal.proofs.WritingLemmas.{zeros_long}
use Rattle.dbus_framing.specs.Headers.{field_parts}
use Rattle.dbus_sending.specs.Sent as sending
use Rattle.connection_worker.specs.service_events.specs.secret_calls.specs.declared.call.Call.{Call}
use Rattle.connection_worker.specs.service_events.specs.secret_calls.specs.declared.call.Call.TheVariants as call
use Rattle.connection_worker.specs.service_events.specs.secret_calls.proofs.LengthLemmas.{AtMost, AllAtMost, end-most, more-most, byte-most, word-most, long-most, text-most, path-most, variant-most, struct-most, array-most}
use Rattle.connection_worker.specs.service_events.specs.secret_calls.specs.Outs.{prompt_path}
use Rattle.connection_worker.specs.service_events.specs.secret_calls.proofs.SizeLemmas.{fields-most, prompt-short}
use Rattle.client_core.specs.Arguments.{arguments_of, attributes_value, given_secret, item_properties, session_text}
use Rattle.client_core.specs.Asked.{most_bytes, sent}
use Rattle.client_core.specs.Asked as asking
use Rattle.client_core.specs.Askable.{CanBeAsked}
use Rattle.load_plan.specs.Plan.{create, first, opening, plan, read, search, the_name}
use Rattle.load_plan.specs.Words.{cells, group_of, secret_of}
use Rattle.load_plan.proofs.PartLemmas.{label_text, number_text, one_ordered, plain_text, two_ordered}
use Rattle.load_plan.proofs.PlanLemmas.{append-all}

-- ---- they can be asked

no-slash : All (λ byte. byte ≢ 47) the_name
no-slash = All-from_recursion (λ byte. byte ≢ 47) the_name ((λ e. omega (arith, e)), ((λ e. omega (arith, e)), ((λ e. omega (arith, e)), ((λ e. omega (arith, e)), tt))))

name-stem : IsStem the_name
name-stem = record {
  text = plain_text the_name refl;
  some = omega arith;
  fits = omega arith;
  no_slash = λ has. (let no : 47 ≢ 47 = All-contains (λ byte. byte ≢ 47) the_name 47 no-slash has in no refl);
}

are-bytes-append : (one other : List ℕ) → AreBytes one → AreBytes other → AreBytes (one ++ other)
are-bytes-append [] other first second = second
are-bytes-append (byte ∷ one) other first second = (first.0, are-bytes-append one other first.1 second)

cells-bytes : (seed stream place : ℕ) → AreBytes (cells seed stream place)
unfolding cells
cells-bytes seed stream place = (omega arith, (omega arith, (omega arith, (omega arith, tt))))

secret-bytes : (seed item : ℕ) → AreBytes (secret_of seed item)
secret-bytes seed item =
    are-bytes-append (cells seed 1 (4 * item)) _ (cells-bytes seed 1 (4 * item))
    (are-bytes-append (cells seed 1 (4 * item + 1)) _ (cells-bytes seed 1 (4 * item + 1))
    (are-bytes-append (cells seed 1 (4 * item + 2)) (cells seed 1 (4 * item + 3)) (cells-bytes seed 1 (4 * item + 2)) (cells-bytes seed 1 (4 * item + 3))))

opening-can : AllByRecursion CanBeAsked opening
opening-can = (
  record { object = tt; arguments = tt },
  (
    record { object = tt; arguments = (plain_text the_name refl, tt) },
    (
      record { object = (omega arith, omega arith); arguments = tt },
      (
        record { object = tt; arguments = ((omega arith, omega arith), omega arith, (omega arith, (omega arith, (omega arith, (omega arith, tt))))) },
        (record { object = tt; arguments = plain_text (codes "plain") refl }, tt),
      ),
    ),
  ),
)

create-can : (seed item : ℕ) → item < 2 ^ 32 → CanBeAsked (create seed item)
create-can seed item fits = record {
  object = name-stem;
  arguments = (
    tt,
    label_text item fits,
    record {
      ordered = two_ordered (value.Text (decimal (group_of seed item))) (value.Text (decimal item));
      texts = (plain_text (codes "group") refl, number_text (group_of seed item) (omega arith), (plain_text (codes "number") refl, number_text item (omega (arith, fits)), tt));
    },
    record { session = (omega arith, omega arith); value = secret-bytes seed item; content = plain_text (codes "text/plain") refl },
  );
}

search-can : (group : ℕ) → group < 2 ^ 32 → CanBeAsked (search group)
search-can group fits = record {
  object = tt;
  arguments = record { ordered = one_ordered (value.Text (decimal group)); texts = (plain_text (codes "group") refl, number_text group (omega (arith, fits)), tt) };
}

read-can : (item : ℕ) → item + 1 < 2 ^ 32 → CanBeAsked (read item)
read-can item fits = record { object = (name-stem, fits); arguments = (omega arith, omega arith) }

pub first-each : (P : Call → Type 0) (f : ℕ → Call) (n : ℕ) → ((k : ℕ) → k < n → P (f k)) → AllByRecursion P (first f n)
first-each P f zero each = tt
first-each P f (suc n) each = append-all P (first f n) (f n ∷ []) (first-each P f n (λ k lt. each k (omega (arith, lt)))) (each n (omega arith), tt)

-- each call of a load can be
pub plan-can : (items seed : ℕ) → items ≤ 1000 → AllByRecursion CanBeAsked (plan items seed)
plan-can items seed few =
    append-all CanBeAsked opening _ opening-can (append-all CanBeAsked (first (create seed) items) _ (first-each CanBeAsked (create seed) items (λ k lt. create-can seed k (omega (arith, few, lt))))
    (append-all CanBeAsked (first search 10) (first read items) (first-each CanBeAsked search 10 (λ k lt. search-can k (omega (arith, lt)))) (first-each CanBeAsked read items (λ k lt. read-can k (omega (arith, few, lt))))))

-- ---- they are small

-- the message of the call is small, with any serial
abbrev pub IsSmall : Call → Type 0
IsSmall it = (serial : ℕ) → length (asking.spelled it serial) ≤ most_bytes

header-most : {most : ℕ} (message : sending.Sent) → AllAtMost most (sending.fields_of message) → (place : ℕ) → length (all_spelled Little (sending.header_of message) place) ≤ most + 32
header-most message fields place =
    let sum = more-most (byte-most 108) (more-most (byte-most message.header.kind) (more-most (byte-most message.header.flags) (more-most (byte-most 1)
    (more-most (word-most (length (all_spelled Little message.body 0))) (more-most (word-most message.header.serial) (more-most (array-most {ts = field_parts} fields) end-most)))))) in
    omega (arith, sum.few place)

-- a message is as long as its fields and its body, and a little longer
message-most : (fields body : ℕ) (message : sending.Sent) → AllAtMost fields (sending.fields_of message) → AllAtMost body message.body → length (sending.spelled_message message) ≤ fields + body + 40
message-most fields body message some values =
    let H = all_spelled Little (sending.header_of message) 0 in
    let B = all_spelled Little message.body 0 in
    omega (arith, header-most message some 0, values.few 0, length-append H (zeros (padding 8 (length H % 8))), zeros_long (padding 8 (length H % 8)), length-append (padded 8 H) B)

register-small : IsSmall call.Register
unfolding number_bytes agent
register-small serial = omega arith

collection-small : IsSmall (call.CreateCollection the_name None)
unfolding number_bytes service
collection-small serial = omega arith

session-small : IsSmall (call.OpenSession (codes "plain"))
unfolding number_bytes service
session-small serial = omega arith

digits-few : (n : ℕ) → n < 2 ^ 64 → length (decimal n) ≤ 20
digits-few n fits = length-decimal-le 20 n (omega arith) (omega (arith, fits)) fits

entry-most : {one other : ℕ} {key v : Val} → AtMost one key → AtMost other v → AtMost (7 + (one + other)) (Val.entry key v)
entry-most {one} {other} {key} {v} first second = record {
  few = λ place. (
      let Z = zeros (padding 8 place) in
      let K = spelled Little key (start_of 8 place) in
      let there = behind (start_of 8 place) (length K) in
      omega (arith, zeros_long (padding 8 place), first.few (start_of 8 place), second.few there, length-append Z (K ++ spelled Little v there), length-append K (spelled Little v there))
      );
}

entries-most : {most : ℕ} {key : BasicType} {held : Ty} {vs : Vals} → AllAtMost most vs → AtMost (14 + most) (Val.array (Ty.entry key held) vs)
unfolding number_bytes
entries-most {most} {key} {held} {vs} elements = record {
  few = λ place. (
      let first = behind (start_of 4 place) 4 in
      let E = all_spelled Little vs (first_at 8 place) in
      let N = number_bytes Little w32 (length E) in
      let Z = zeros (padding 4 place) in
      let Y = zeros (padding 8 first) in
      omega (arith, zeros_long (padding 4 place), zeros_long (padding 8 first), elements.few (first_at 8 place), length-append Z (N ++ (Y ++ E)), length-append N (Y ++ E), length-append Y E)
      );
}

bytes-most : (them : List ℕ) → AtMost (length them + 7) (Val.bytes them)
unfolding number_bytes
bytes-most them = record {
  few = λ place. (
      let N = number_bytes Little w32 (length them) in
      let Z = zeros (padding 4 place) in
      let Y = zeros (padding 1 (behind (start_of 4 place) 4)) in
      omega (arith, zeros_long (padding 4 place), zeros_long (padding 1 (behind (start_of 4 place) 4)), length-append Z (N ++ (Y ++ them)), length-append N (Y ++ them), length-append Y them)
      );
}

truth-most : (n : ℕ) → AtMost 7 (Val.number basics.Boolean n)
unfolding number_bytes
truth-most n = record { few = λ place. omega (arith, zeros_long (padding 4 place), length-append (zeros (padding 4 place)) (number_bytes Little w32 n)) }

-- the attributes of an item
two-most : (group digits : List ℕ) → length group ≤ 20 → length digits ≤ 20 → AtMost 200 (attributes_value ((codes "group", value.Text group) ∷ (codes "number", value.Text digits) ∷ []))
two-most group digits few-group few-digits =
    let sum = entries-most {key = basics.String} {held = Ty.basic basics.String} (more-most (entry-most (text-most (codes "group")) (text-most group)) (more-most (entry-most (text-most (codes "number")) (text-most digits)) end-most)) in
    record { few = λ place. omega (arith, sum.few place, few-group, few-digits) }

one-most : (group : List ℕ) → length group ≤ 20 → AtMost 200 (attributes_value ((codes "group", value.Text group) ∷ []))
one-most group few-group =
    let sum = entries-most {key = basics.String} {held = Ty.basic basics.String} (more-most (entry-most (text-most (codes "group")) (text-most group)) end-most) in
    record { few = λ place. omega (arith, sum.few place, few-group) }

-- the paths of the objects
collection-path : length (path_text (name.Collection the_name)) ≤ 60
unfolding collections
collection-path = omega arith

service-path : length service ≤ 60
unfolding service
service-path = omega arith

item-path : (number : ℕ) → number < 2 ^ 64 → length (path_text (name.Item the_name (record { 0 = number }))) ≤ 100
unfolding collections
item-path number fits =
    let load : length (escaped the_name) ≡ 4 = refl in
    omega (arith, length-append collections (escaped the_name ++ 47 ∷ decimal number), length-append (escaped the_name) (47 ∷ decimal number), load, digits-few number fits)

session-path : length (session_text (Some (record { 0 = 1 }))) ≤ 60
session-path = omega (arith, length-append (codes "/org/freedesktop/secrets/session/s") (decimal 1), digits-few 1 (omega arith))

prompt-path : length (path_text (name.Prompt (record { 0 = 1 }))) ≤ 60
unfolding prompts
prompt-path = omega (arith, length-append prompts (decimal 1), digits-few 1 (omega arith))

agent-path : length agent ≤ 60
unfolding agent
agent-path = omega arith

prompt-small : IsSmall (call.Prompt (record { 0 = 1 }))
prompt-small serial =
    let message = sent (call.Prompt (record { 0 = 1 })) serial in
    let path = path_text (name.Prompt (record { 0 = 1 })) in
    let fields = fields-most path (codes "org.freedesktop.Secret.Prompt") (codes "Prompt") 115 [] in
    let sum = more-most (text-most []) end-most in
    omega (arith, message-most (length path + 29 + 6 + 1 + 70) 20 message (record { few = λ place. omega (arith, fields.few place) }) (record { few = λ place. omega (arith, sum.few place) }), prompt-path)

answer-small : IsSmall (call.Answer (Some (record { 0 = 1 })) 1 the_name)
answer-small serial =
    let message = sent (call.Answer (Some (record { 0 = 1 })) 1 the_name) serial in
    let fields = fields-most agent (codes "org.keyringd.Agent1") (codes "Answer") 111 (codes "tay") in
    let sum = more-most (path-most (prompt_path 1)) (more-most (long-most 1) (more-most (bytes-most the_name) end-most)) in
    omega (
      arith,
      message-most (length agent + 19 + 6 + 4 + 70) 200 message (record { few = λ place. omega (arith, fields.few place) })
          (record { few = λ place. omega (arith, sum.few place, prompt-short (record { 0 = 1 }) (omega arith)) }),
      agent-path,
    )

-- a secret
secret-most : (secret : List ℕ) → length secret ≡ 16 → AtMost 200 (given_secret (record { session = Some (record { 0 = 1 }); value = secret; content = codes "text/plain" }))
secret-most secret long =
    let sum = struct-most (more-most (path-most (session_text (Some (record { 0 = 1 })))) (more-most (bytes-most []) (more-most (bytes-most secret) (more-most (text-most (codes "text/plain")) end-most)))) in
    record { few = λ place. omega (arith, sum.few place, session-path, long) }

-- what a new item is given
properties-most : (label group digits : List ℕ) → length label ≤ 50 → length group ≤ 20 → length digits ≤ 20
    → AtMost 500 (item_properties label ((codes "group", value.Text group) ∷ (codes "number", value.Text digits) ∷ []))
properties-most label group digits few-label few-group few-digits =
    let held = variant-most (two-most group digits few-group few-digits) in
    let sum =
    entries-most {key = basics.String} {held = Ty.variant} (more-most (entry-most (text-most (codes "org.freedesktop.Secret.Item.Label")) (variant-most (text-most label)))
    (more-most (entry-most (text-most (codes "org.freedesktop.Secret.Item.Attributes")) held) end-most)) in
    record { few = λ place. omega (arith, sum.few place, few-label) }

long-secret : (seed item : ℕ) → length (secret_of seed item) ≡ 16
unfolding cells
long-secret seed item = refl

long-label : (item : ℕ) → item < 2 ^ 32 → length (codes "item " ++ decimal item) ≤ 50
long-label item fits = omega (arith, length-append (codes "item ") (decimal item), digits-few item (omega (arith, fits)))

create-small : (seed item : ℕ) → item < 2 ^ 32 → IsSmall (create seed item)
create-small seed item fits serial =
    let message = sent (create seed item) serial in
    let path = path_text (name.Collection the_name) in
    let fields = fields-most path (codes "org.freedesktop.Secret.Collection") (codes "CreateItem") 97 (codes "{sv}(oayays)b") in
    let body : AllAtMost 1000 (arguments_of (create seed item)) =
    let properties =
    properties-most (codes "item " ++ decimal item) (decimal (group_of seed item)) (decimal item) (long-label item fits) (digits-few (group_of seed item) (omega arith)) (digits-few item (omega (arith, fits))) in
    let sum = more-most properties (more-most (secret-most (secret_of seed item) (long-secret seed item)) (more-most (truth-most 0) end-most)) in
    record { few = λ place. omega (arith, sum.few place) } in
    omega (arith, message-most (length path + 33 + 10 + 14 + 70) 1000 message (record { few = λ place. omega (arith, fields.few place) }) body, collection-path)

search-small : (group : ℕ) → group < 2 ^ 32 → IsSmall (search group)
search-small group fits serial =
    let message = sent (search group) serial in
    let fields = fields-most service (codes "org.freedesktop.Secret.Service") (codes "SearchItems") 97 (codes "{ss}") in
    let sum = more-most (one-most (decimal group) (digits-few group (omega (arith, fits)))) end-most in
    omega (arith, message-most (length service + 30 + 11 + 5 + 70) 200 message (record { few = λ place. omega (arith, fields.few place) }) (record { few = λ place. omega (arith, sum.few place) }), service-path)

read-small : (item : ℕ) → item + 1 < 2 ^ 32 → IsSmall (read item)
read-small item fits serial =
    let message = sent (read item) serial in
    let path = path_text (name.Item the_name (record { 0 = item + 1 })) in
    let fields = fields-most path (codes "org.freedesktop.Secret.Item") (codes "GetSecret") 111 [] in
    let sum = more-most (path-most (session_text (Some (record { 0 = 1 })))) end-most in
    omega (
      arith,
      message-most (length path + 27 + 9 + 1 + 70) 100 message (record { few = λ place. omega (arith, fields.few place) }) (record { few = λ place. omega (arith, sum.few place, session-path) }),
      item-path (item + 1) (omega (arith, fits)),
    )

-- the message of each call of a load is small
pub plan-small : (items seed : ℕ) → items ≤ 1000 → AllByRecursion IsSmall (plan items seed)
plan-small items seed few =
    append-all IsSmall opening _ (register-small, (collection-small, (prompt-small, (answer-small, (session-small, tt)))))
    (append-all IsSmall (first (create seed) items) _ (first-each IsSmall (create seed) items (λ k lt. create-small seed k (omega (arith, few, lt))))
    (append-all IsSmall (first search 10) (first read items) (first-each IsSmall search 10 (λ k lt. search-small k (omega (arith, lt)))) (first-each IsSmall read items (λ k lt. read-small k (omega (arith, few, lt))))))
