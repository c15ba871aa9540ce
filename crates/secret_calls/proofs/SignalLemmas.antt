-- How long the signals of changes are: a little longer than the paths and the values of properties that they contain.
use Rattle.std.proofs.Common.{ℕ, ◌+◌, ◌*◌, ◌%◌, ◌≤◌, List, [], ◌∷◌, ◌++◌, length, codes, arith, length-append}
use Rattle.std.specs.Int.{w32}
use Rattle.dbus_types.specs.declared.complete_type.BasicType.{BasicType}
use Rattle.dbus_types.specs.declared.complete_type.BasicType.TheVariants as basics
use Rattle.dbus_types.specs.declared.endian.Endian.TheVariants.{Little}
use Rattle.dbus_types.specs.Types.{Ty, text_of}
use Rattle.dbus_types.specs.Values.{Val, Vals, ty_of}
use Rattle.dbus_marshal.specs.Wire.{behind, number_bytes, padding, start_of, zeros}
use Rattle.dbus_marshal.specs.Spelling.{all_spelled, first_at}
use Rattle.dbus_marshal.specs.Spelling as spelling
use Rattle.dbus_marshal.specs.Putting.{padded}
use Rattle.dbus_marshal.proofs.WritingLemmas.{zeros_long}
use Rattle.dbus_sending.specs.Sent as sending
use Rattle.secret_calls.specs.declared.changed.ChangedObject.{ChangedObject}
use Rattle.secret_calls.specs.declared.changed.ChangedObject.TheVariants as changed
use Rattle.secret_calls.specs.declared.out.Out.TheVariants as out
use Rattle.secret_calls.specs.declared.property.Attribute.{Attribute}
use Rattle.secret_calls.specs.declared.property.Property.{Property}
use Rattle.secret_calls.specs.declared.property.Property.TheVariants as property
use Rattle.secret_calls.specs.declared.property.PropertyValue.{PropertyValue}
use Rattle.secret_calls.specs.declared.property.PropertyValue.TheVariants as shown
use Rattle.secret_calls.specs.declared.property.ShownProperty.{ShownProperty}
use Rattle.secret_calls.specs.declared.signal.Signal.{Signal}
use Rattle.secret_calls.specs.declared.signal.Signal.TheVariants as signal
use Rattle.secret_calls.specs.Outs.{attribute_value, changed_interface, changed_path, emitter, name_values, prompt_path, property_text, property_value, service_path, shown_value, shown_values, signal_values, sent, spelled, most_emitter, IsChanged, IsSignal, HasSpelling, most_waiting}
use Rattle.secret_calls.proofs.LengthLemmas.{AtMost, AllAtMost, end-most, more-most, text-most, path-most, variant-most}
use Rattle.secret_calls.proofs.SizeLemmas.{fields-most, header-most, prompt-short, signal-head}

-- ---- values

-- an entry of a dict
pub entry-most : {one other : ℕ} {key v : Val} → AtMost one key → AtMost other v → AtMost (7 + (one + other)) (Val.entry key v)
entry-most {one} {other} {key} {v} first second = record {
  few = λ place. (
      let start = start_of 8 place in
      let K = spelling.spelled Little key start in
      let there = behind start (length K) in
      let V = spelling.spelled Little v there in
      omega (arith, zeros_long (padding 8 place), first.few start, second.few there, length-append (zeros (padding 8 place)) (K ++ V), length-append K V)
      );
}

-- a dict
pub dict-most : {most : ℕ} {key : BasicType} {t : Ty} {vs : Vals} → AllAtMost most vs → AtMost (14 + most) (Val.array (Ty.entry key t) vs)
unfolding number_bytes
dict-most {most} {key} {t} {vs} elements = record {
  few = λ place. (
      let first = behind (start_of 4 place) 4 in
      let E = all_spelled Little vs (first_at 8 place) in
      let N = number_bytes Little w32 (length E) in
      let Z = zeros (padding 4 place) in
      let Y = zeros (padding 8 first) in
      omega (arith, zeros_long (padding 4 place), zeros_long (padding 8 first), elements.few (first_at 8 place), length-append Z (N ++ (Y ++ E)), length-append N (Y ++ E), length-append Y E)
      );
}

-- an array of texts
pub texts-most : {most : ℕ} {vs : Vals} → AllAtMost most vs → AtMost (10 + most) (Val.array (Ty.basic basics.String) vs)
unfolding number_bytes
texts-most {most} {vs} elements = record {
  few = λ place. (
      let first = behind (start_of 4 place) 4 in
      let E = all_spelled Little vs (first_at 4 place) in
      let N = number_bytes Little w32 (length E) in
      let Z = zeros (padding 4 place) in
      let Y = zeros (padding 4 first) in
      omega (arith, zeros_long (padding 4 place), zeros_long (padding 4 first), elements.few (first_at 4 place), length-append Z (N ++ (Y ++ E)), length-append N (Y ++ E), length-append Y E)
      );
}

-- ---- properties

name-short : (it : Property) → length (property_text it) ≤ 11
name-short property.Collections = omega arith
name-short _ = omega arith

-- whether a collection or an item is locked
pub truth-most : (bit : ℕ) → AtMost 7 (Val.number basics.Boolean bit)
unfolding number_bytes
truth-most bit = record { few = λ place. omega (arith, zeros_long (padding 4 place), length-append (zeros (padding 4 place)) (number_bytes Little w32 bit)) }

-- the name of a property
name-most : (it : Property) → AtMost 19 (Val.text basics.String (property_text it))
name-most it = record { few = λ place. omega (arith, (text-most (property_text it)).few place, name-short it) }

-- the names of properties
pub names-most : (names : List Property) → AllAtMost (19 * length names) (name_values names)
names-most [] = record { few = λ place. omega arith }
names-most (one ∷ names) =
    let sum = more-most (name-most one) (names-most names) in
    record { few = λ place. omega (arith, sum.few place) }

type-short : (value : PropertyValue) → length (text_of (ty_of (property_value value))) ≤ 5
type-short (shown.Objects objects) = omega arith
type-short (shown.Text text) = omega arith
type-short (shown.Attributes attributes) = omega arith
type-short (shown.Truth truth) = omega arith
type-short (shown.Moment seconds) = omega arith

-- a property with its value
pub shown-most : {most : ℕ} (one : ShownProperty) → AtMost most (property_value one.value) → AtMost (33 + most) (shown_value one)
shown-most {most} one held =
    let entry = entry-most (name-most one.property) (variant-most held) in
    record { few = λ place. omega (arith, entry.few place, type-short one.value) }

-- an attribute
pub attribute-most : (one : Attribute) → AtMost (length one.name + length one.value + 23) (attribute_value one)
attribute-most one =
    let entry = entry-most (text-most one.name) (text-most one.value) in
    record { few = λ place. omega (arith, entry.few place) }

-- ---- bodies

-- the body of a signal of a collection or an item, whose path it has
pub object-values : (path : List ℕ) → length (all_spelled Little (Vals.more (Val.text basics.ObjectPath path) Vals.end) 0) ≤ length path + 8
object-values path = let sum = more-most (path-most path) end-most in omega (arith, sum.few 0)

interface-short : (object : ChangedObject) → length (changed_interface object) ≤ 33
interface-short changed.Service = omega arith
interface-short (changed.Collection collection) = omega arith
interface-short (changed.Item item) = omega arith

-- the body of PropertiesChanged
pub changed-values : {most : ℕ} (object : ChangedObject) (properties : List ShownProperty) (invalidated : List Property) → AllAtMost most (shown_values properties)
    → length (all_spelled Little (signal_values (signal.PropertiesChanged object properties invalidated)) 0) ≤ most + 19 * length invalidated + 65
changed-values {most} object properties invalidated elements =
    let sum = more-most (text-most (changed_interface object)) (more-most (dict-most {key = basics.String} {t = Ty.variant} elements) (more-most (texts-most (names-most invalidated)) end-most)) in
    omega (arith, sum.few 0, interface-short object)

-- ---- whole signals

-- what comes before a body, given the bytes of the header's fields
head-within : {most : ℕ} (message : sending.Sent) → AllAtMost most (sending.fields_of message) → length (padded 8 (all_spelled Little (sending.header_of message) 0)) ≤ most + 39
head-within message fields =
    let H = all_spelled Little (sending.header_of message) 0 in
    omega (arith, header-most message fields 0, length-append H (zeros (padding 8 (length H % 8))), zeros_long (padding 8 (length H % 8)))

-- what comes before the body of a signal, beside the path of the object that emits it
head-most : (one : Signal) (serial : ℕ) → length (signal-head one serial) ≤ length (emitter one) + 170
head-most (signal.Ask prompt round kind label wrong) serial =
    omega (
      arith,
      head-within (sent (out.Signal (signal.Ask prompt round kind label wrong)) serial)
          (fields-most (codes "/org/freedesktop/secrets/agent") (codes "org.keyringd.Agent1") (codes "Ask") 111 (codes "tssu")),
    )
head-most (signal.Completed prompt dismissed completion) serial =
    omega (
      arith,
      head-within (sent (out.Signal (signal.Completed prompt dismissed completion)) serial)
          (fields-most (prompt_path prompt.0) (codes "org.freedesktop.Secret.Prompt") (codes "Completed") 98 (codes "v")),
    )
head-most (signal.CollectionCreated collection) serial =
    omega (
      arith,
      head-within (sent (out.Signal (signal.CollectionCreated collection)) serial)
          (fields-most service_path (codes "org.freedesktop.Secret.Service") (codes "CollectionCreated") 111 []),
    )
head-most (signal.CollectionDeleted collection) serial =
    omega (
      arith,
      head-within (sent (out.Signal (signal.CollectionDeleted collection)) serial)
          (fields-most service_path (codes "org.freedesktop.Secret.Service") (codes "CollectionDeleted") 111 []),
    )
head-most (signal.CollectionChanged collection) serial =
    omega (
      arith,
      head-within (sent (out.Signal (signal.CollectionChanged collection)) serial)
          (fields-most service_path (codes "org.freedesktop.Secret.Service") (codes "CollectionChanged") 111 []),
    )
head-most (signal.ItemCreated collection item) serial =
    omega (
      arith,
      head-within (sent (out.Signal (signal.ItemCreated collection item)) serial)
          (fields-most collection (codes "org.freedesktop.Secret.Collection") (codes "ItemCreated") 111 []),
    )
head-most (signal.ItemDeleted collection item) serial =
    omega (
      arith,
      head-within (sent (out.Signal (signal.ItemDeleted collection item)) serial)
          (fields-most collection (codes "org.freedesktop.Secret.Collection") (codes "ItemDeleted") 111 []),
    )
head-most (signal.ItemChanged collection item) serial =
    omega (
      arith,
      head-within (sent (out.Signal (signal.ItemChanged collection item)) serial)
          (fields-most collection (codes "org.freedesktop.Secret.Collection") (codes "ItemChanged") 111 []),
    )
head-most (signal.PropertiesChanged object properties invalidated) serial =
    omega (
      arith,
      head-within (sent (out.Signal (signal.PropertiesChanged object properties invalidated)) serial)
          (fields-most (changed_path object) (codes "org.freedesktop.DBus.Properties") (codes "PropertiesChanged") 115 (codes "a{sv}as")),
    )

-- a signal has at most 170 bytes more than its values and the path of the object that emits it
pub signal-most : (one : Signal) (serial : ℕ) → length (spelled (out.Signal one) serial) ≤ length (all_spelled Little (signal_values one) 0) + length (emitter one) + 170
signal-most one serial = omega (arith, length-append (signal-head one serial) (all_spelled Little (signal_values one) 0), head-most one serial)

-- the path of the object whose properties changed is short
pub changed-short : (object : ChangedObject) → IsChanged object → length (changed_path object) ≤ most_emitter
changed-short changed.Service is = omega arith
changed-short (changed.Collection collection) is = is.short
changed-short (changed.Item item) is = is.short

-- and so is that of each object that emits a signal
pub emitter-short : (one : Signal) → IsSignal one → length (emitter one) ≤ most_emitter
emitter-short (signal.Ask prompt round kind label wrong) is = omega arith
emitter-short (signal.Completed prompt dismissed completion) is = omega (arith, prompt-short prompt is.0)
emitter-short (signal.CollectionCreated collection) is = omega arith
emitter-short (signal.CollectionDeleted collection) is = omega arith
emitter-short (signal.CollectionChanged collection) is = omega arith
emitter-short (signal.ItemCreated collection item) is = is.0.short
emitter-short (signal.ItemDeleted collection item) is = is.0.short
emitter-short (signal.ItemChanged collection item) is = is.0.short
emitter-short (signal.PropertiesChanged object properties invalidated) is = changed-short object is.0

-- a signal is short enough to wait, and can be spelled, if its values are short enough
pub signal-waits : (one : Signal) (serial : ℕ) → IsSignal one → length (all_spelled Little (signal_values one) 0) + 1194 ≤ most_waiting → length (spelled (out.Signal one) serial) ≤ most_waiting
signal-waits one serial is small = omega (arith, signal-most one serial, emitter-short one is, small)

pub signal-fits : (one : Signal) → IsSignal one → length (all_spelled Little (signal_values one) 0) + 1194 ≤ most_waiting → HasSpelling (out.Signal one)
signal-fits one is small = record { typed = is; short = omega (arith, small) }
