-- How many bytes the returns of a load have.
use Rattle.std.proofs.Common.{◌≡◌, ℕ, ◌+◌, ◌*◌, ◌%◌, ◌^◌, ◌<◌, ◌≤◌, true, List, [], ◌∷◌, ◌++◌, length, map, Option, Ok, codes, decimal, refl, arith, length-append, le-leb}
use Rattle.std.specs.Int.{w32}
use Rattle.std.specs.List.{AllByRecursion}
use Rattle.std.proofs.lemmas.Fmt.{length-decimal-le}
use Rattle.std.proofs.lemmas.List.Sums.{sum_by-cons}
use Rattle.kr_base.specs.declared.ids.ItemId.{ItemId}
use Rattle.kr_base.specs.declared.ids.PromptId.{PromptId}
use Rattle.kr_names.specs.declared.object_name.ObjectName.TheVariants as name
use Rattle.kr_names.specs.Path.{collections, path_text}
use Rattle.kr_names.specs.Escape.{escaped}
use Rattle.dbus_types.specs.declared.endian.Endian.TheVariants.{Little}
use Rattle.dbus_types.specs.Values.{Val}
use Rattle.dbus_marshal.specs.Wire.{padding, behind, start_of, zeros, number_bytes}
use Rattle.dbus_marshal.specs.Spelling.{all_spelled, first_at}
use Rattle.dbus_marshal.proofs.WritingLemmas.{zeros_long}
use Rattle.dbus_sending.specs.Sent.{fields_of, header_of}
use Rattle.connection_worker.specs.service_events.specs.secret_calls.specs.declared.changed.ChangedObject.TheVariants as object
use Rattle.connection_worker.specs.service_events.specs.secret_calls.specs.declared.out.Body.{Body}
use Rattle.connection_worker.specs.service_events.specs.secret_calls.specs.declared.out.Body.TheVariants as body
use Rattle.connection_worker.specs.service_events.specs.secret_calls.specs.declared.out.Out.TheVariants as out
use Rattle.connection_worker.specs.service_events.specs.secret_calls.specs.declared.property.Property.TheVariants as property
use Rattle.connection_worker.specs.service_events.specs.secret_calls.specs.declared.secret.ReturnedSecret.{ReturnedSecret}
use Rattle.connection_worker.specs.service_events.specs.secret_calls.specs.declared.signal.Signal.{Signal}
use Rattle.connection_worker.specs.service_events.specs.secret_calls.specs.declared.signal.Signal.TheVariants as signal
use Rattle.connection_worker.specs.service_events.specs.secret_calls.specs.Outs.{path_values, paths_value, prompt_text, sent, service_path, session_path, signal_values, spelled_body}
use Rattle.connection_worker.specs.service_events.specs.secret_calls.proofs.LengthLemmas.{AllAtMost, AtMost, end-most, more-most, path-most, struct-most, text-most}
use Rattle.connection_worker.specs.service_events.specs.secret_calls.proofs.SizeLemmas.{fields-most, header-most, session-short, signal-head}
use Rattle.connection_worker.specs.service_events.specs.service_prompts.specs.Announcing.{collection_path, item_made_signals, item_path, made_signals, renews}
use Rattle.connection_worker.specs.service_events.specs.service_tables.specs.Connections.{size_of, size_waiting}
use Rattle.connection_worker.specs.service_events.specs.Run.{fits}
use Rattle.load_plan.specs.Plan.{the_name}

-- a body within the limit
pub small-fits : (it : Body) → length (spelled_body it) ≤ 8388608 → fits (Ok it) ≡ true
small-fits it few = le-leb (length (spelled_body it)) 8388608 few

pub empty-fits : fits (Ok body.Empty) ≡ true
empty-fits = small-fits body.Empty (omega arith)

pub session-fits : fits (Ok (body.Session (record { 0 = 1 }))) ≡ true
session-fits = small-fits (body.Session (record { 0 = 1 })) (omega (arith, session-short (record { 0 = 1 }) (omega arith)))

pub object-fits : (object : List ℕ) (prompt : Option PromptId) → length object ≤ 1000 → length (prompt_text prompt) ≤ 1000 → fits (Ok (body.ObjectAndPrompt object prompt)) ≡ true
object-fits object prompt few one =
    let sum = more-most (path-most object) (more-most (path-most (prompt_text prompt)) end-most) in
    small-fits (body.ObjectAndPrompt object prompt) (omega (arith, sum.few 0, few, one))

-- ---- paths of items

pub digits-few : (n : ℕ) → n < 2 ^ 64 → length (decimal n) ≤ 20
digits-few n fits = length-decimal-le 20 n (omega arith) (omega (arith, fits)) fits

pub item-path : (item : ItemId) → item.0 < 2 ^ 64 → length (path_text (name.Item the_name item)) ≤ 100
unfolding collections
item-path item fits =
    let load : length (escaped the_name) ≡ 4 = refl in
    omega (arith, length-append collections (escaped the_name ++ 47 ∷ decimal item.0), length-append (escaped the_name) (47 ∷ decimal item.0), load, digits-few item.0 fits)

-- ---- what a search finds

list-most : {most : ℕ} (paths : List (List ℕ)) → AllAtMost most (path_values paths) → AtMost (10 + most) (paths_value paths)
unfolding number_bytes
list-most {most} paths elements = record {
  few = λ place. (
      let first = behind (start_of 4 place) 4 in
      let E = all_spelled Little (path_values paths) (first_at 4 place) in
      let N = number_bytes Little w32 (length E) in
      let Z = zeros (padding 4 place) in
      let Y = zeros (padding 4 first) in
      omega (arith, zeros_long (padding 4 place), zeros_long (padding 4 first), elements.few (first_at 4 place), length-append Z (N ++ (Y ++ E)), length-append N (Y ++ E), length-append Y E)
      );
}

paths-most : (paths : List (List ℕ)) → AllByRecursion (λ path. length path ≤ 100) paths → AllAtMost (108 * length paths) (path_values paths)
paths-most [] few = record { few = λ place. omega arith }
paths-most (path ∷ paths) few =
    let sum = more-most (path-most path) (paths-most paths few.1) in
    record { few = λ place. omega (arith, few.0, sum.few place) }

pub found-fits : (paths : List (List ℕ)) → AllByRecursion (λ path. length path ≤ 100) paths → length paths ≤ 1000 → fits (Ok (body.Found paths [])) ≡ true
found-fits paths short few =
    let sum = more-most (list-most paths (paths-most paths short)) (more-most (list-most [] (paths-most [] tt)) end-most) in
    small-fits (body.Found paths []) (omega (arith, sum.few 0, few))

-- ---- a secret

bytes-most : (them : List ℕ) → AtMost (length them + 7) (Val.bytes them)
unfolding number_bytes
bytes-most them = record {
  few = λ place. (
      let N = number_bytes Little w32 (length them) in
      let Z = zeros (padding 4 place) in
      let Y = zeros (padding 1 (behind (start_of 4 place) 4)) in
      omega (arith, zeros_long (padding 4 place), zeros_long (padding 1 (behind (start_of 4 place) 4)), length-append Z (N ++ (Y ++ them)), length-append N (Y ++ them), length-append Y them)
      );
}

pub secret-fits : (secret : ReturnedSecret) → secret.session.0 < 2 ^ 64 → length secret.value ≤ 1000 → length secret.content ≤ 1000 → fits (Ok (body.Secret secret)) ≡ true
secret-fits secret fits value content =
    let path = session_path secret.session.0 in
    let long = length-append (codes "/org/freedesktop/secrets/session/s") (decimal secret.session.0) in
    let parts = more-most (path-most path) (more-most (bytes-most []) (more-most (bytes-most secret.value) (more-most (text-most secret.content) end-most))) in
    let sum = more-most (struct-most parts) end-most in
    small-fits (body.Secret secret) (omega (arith, sum.few 0, long, digits-few secret.session.0 fits, value, content))

-- ---- what is announced

-- a header has at most so many bytes, with the zeros after it
head-most : {most : ℕ} (it : Signal) → AllAtMost most (fields_of (sent (out.Signal it) 1)) → length (signal-head it 1) ≤ most + 39
head-most it fields =
    let H = all_spelled Little (header_of (sent (out.Signal it) 1)) 0 in
    omega (arith, header-most (sent (out.Signal it) 1) fields 0, length-append H (zeros (padding 8 (length H % 8))), zeros_long (padding 8 (length H % 8)))

-- a signal has a header and its values
parts-size : (it : Signal) (head values : ℕ) → length (signal-head it 1) ≤ head → length (all_spelled Little (signal_values it) 0) ≤ values → size_of (out.Signal it) ≤ head + values
unfolding size_of
parts-size it head values one other = omega (arith, one, other, length-append (signal-head it 1) (all_spelled Little (signal_values it) 0))

load-path : length (collection_path the_name) ≤ 100
unfolding collections
load-path =
    let load : length (escaped the_name) ≡ 4 = refl in
    omega (arith, length-append collections (escaped the_name), load)

created-size : size_of (out.Signal (signal.CollectionCreated (collection_path the_name))) ≤ 1000
created-size =
    let it = signal.CollectionCreated (collection_path the_name) in
    let fields = fields-most service_path (codes "org.freedesktop.Secret.Service") (codes "CollectionCreated") 111 [] in
    let values = more-most (path-most (collection_path the_name)) end-most in
    omega (arith, parts-size it 400 200 (omega (arith, head-most it fields)) (omega (arith, values.few 0, load-path)))

service-size : size_of (out.Signal (renews object.Service property.Collections)) ≤ 1000
unfolding number_bytes
service-size =
    let it = renews object.Service property.Collections in
    let fields = fields-most service_path (codes "org.freedesktop.DBus.Properties") (codes "PropertiesChanged") 115 (codes "a{sv}as") in
    omega (arith, parts-size it 400 200 (omega (arith, head-most it fields)) (omega arith))

items-size : size_of (out.Signal (renews (object.Collection (collection_path the_name)) property.Items)) ≤ 1000
unfolding number_bytes
items-size =
    let it = renews (object.Collection (collection_path the_name)) property.Items in
    let fields = fields-most (collection_path the_name) (codes "org.freedesktop.DBus.Properties") (codes "PropertiesChanged") 115 (codes "a{sv}as") in
    omega (arith, parts-size it 400 200 (omega (arith, head-most it fields, load-path)) (omega arith))

item-size : (item : ItemId) → item.0 < 2 ^ 64 → size_of (out.Signal (signal.ItemCreated (collection_path the_name) (item_path the_name item))) ≤ 1000
item-size item fits =
    let it = signal.ItemCreated (collection_path the_name) (item_path the_name item) in
    let fields = fields-most (collection_path the_name) (codes "org.freedesktop.Secret.Collection") (codes "ItemCreated") 111 [] in
    let values = more-most (path-most (item_path the_name item)) end-most in
    omega (arith, parts-size it 400 200 (omega (arith, head-most it fields, load-path)) (omega (arith, values.few 0, item-path item fits)))

pub made-said : size_waiting (map (λ (it : Signal). out.Signal it) (made_signals the_name)) ≤ 2000
made-said =
    let second = out.Signal (renews object.Service property.Collections) in
    omega (arith, created-size, service-size, sum_by-cons size_of (out.Signal (signal.CollectionCreated (collection_path the_name))) (second ∷ []), sum_by-cons size_of second [])

pub item-said : (item : ItemId) → item.0 < 2 ^ 64 → size_waiting (map (λ (it : Signal). out.Signal it) (item_made_signals the_name item)) ≤ 2000
item-said item fits =
    let second = out.Signal (renews (object.Collection (collection_path the_name)) property.Items) in
    omega (
      arith,
      item-size item fits,
      items-size,
      sum_by-cons size_of (out.Signal (signal.ItemCreated (collection_path the_name) (item_path the_name item))) (second ∷ []),
      sum_by-cons size_of second [],
    )
