-- A message by its definition, and by the rules that are checked one after the other.
use Rattle.std.proofs.Common.{◌≡◌, ℕ, ◌+◌, Bool, true, false, cond, List, [], ◌++◌, length, take, drop, get_or, Option, Some, None, Result, Ok, Err, refl, sym, ap, subst, ◌∙◌, arith, length-append, length-take, inl, inr, lit<}
use Rattle.std.specs.Prelude.{option_and_then}
use Rattle.std.proofs.lemmas.Bool.{cases_lt}
use Rattle.std.specs.Result.{result_ok}
use Rattle.std.proofs.lemmas.List.{nil_from_length, get_or-drop, get_or-take, get_or_past}
use Rattle.dbus_types.specs.declared.endian.Endian.{Endian}
use Rattle.dbus_types.specs.Types.{is_signature}
use Rattle.dbus_types.specs.Values.{Vals}
use Rattle.dbus_marshal.specs.declared.refused.ValueFault.{ValueFault}
use Rattle.dbus_marshal.specs.Wire.{padding}
use Rattle.dbus_marshal.specs.Unmarshal.{are_zero, values_at}
use Rattle.dbus_marshal.proofs.Taking.{IsBytes}
use Rattle.dbus_marshal.proofs.AgainBasics.{at}
use Rattle.dbus_marshal.proofs.UnmarshalLaws.{values_found, values_only}
use Rattle.dbus_framing.specs.declared.violation.Violation.{Violation}
use Rattle.dbus_framing.specs.declared.violation.Violation.TheVariants as violation
use Rattle.dbus_framing.specs.declared.head.Head.{Head}
use Rattle.dbus_framing.specs.Headers.{Fields, fields_in, has_needed}
use Rattle.dbus_framing.specs.Messages.{Parts, parts_from, endian_of, word_at, fields_end, body_start, size_at, field_types, body_types, fields_at, bodied_message, fielded_message, message_at, head_of, HasFields, IsMessage}
use Rattle.dbus_framing.proofs.Heads.{start_stays, size_same, head_stays, heads, passed, size_begun}

-- what a message that is read says
pub record Said (endian : Endian) (bytes : List ℕ) (parts : Parts) : Type 0 where
  pub fields : Fields
  pub body : Vals
  pub headed : fields_at endian bytes ≡ Some fields
  pub needed : has_needed (get_or bytes 1 0) fields ≡ true
  pub bodied : values_at endian (body_types fields) (record { place = 0; left = drop (body_start endian bytes) bytes }) ≡ Ok body
  pub says : parts ≡ parts_from endian bytes fields body

abbrev said : Parts → Result Parts Violation
said parts = Ok parts

said_is : (one other : Parts) → said one ≡ said other → one ≡ other
said_is one other e = cc

bodied_said : (endian : Endian) (bytes : List ℕ) (fields : Fields) (read : Result Vals ValueFault) (parts : Parts)
    → bodied_message endian bytes fields (result_ok read) ≡ Ok parts → (body : Vals) × (read ≡ Ok body) × (parts ≡ parts_from endian bytes fields body)
bodied_said endian bytes fields (Ok body) parts e = (body, refl, sym (said_is (parts_from endian bytes fields body) parts e))
bodied_said endian bytes fields (Err fault) parts e = absurd cc

needed_said : (endian : Endian) (bytes : List ℕ) (fields : Fields) (needed : Bool) (read : Result Vals ValueFault) (parts : Parts)
    → cond needed (bodied_message endian bytes fields (result_ok read)) (Err violation.MissingField) ≡ Ok parts
    → (body : Vals) × (needed ≡ true) × (read ≡ Ok body) × (parts ≡ parts_from endian bytes fields body)
needed_said endian bytes fields true read parts e = let it = bodied_said endian bytes fields read parts e in (it.0, refl, it.1, it.2)
needed_said endian bytes fields false read parts e = absurd cc

fielded_said : (endian : Endian) (bytes : List ℕ) (found : Option Fields) (parts : Parts) → fields_at endian bytes ≡ found
    → fielded_message endian bytes found ≡ Ok parts → Said endian bytes parts
fielded_said endian bytes None parts headed e = absurd cc
fielded_said endian bytes (Some fields) parts headed e =
    let it = needed_said endian bytes fields (has_needed (get_or bytes 1 0) fields) (values_at endian (body_types fields) (record { place = 0; left = drop (body_start endian bytes) bytes })) parts e in
    record { fields = fields; body = it.0; headed = headed; needed = it.1; bodied = it.2; says = it.3 }

pub message_said : (endian : Endian) (bytes : List ℕ) (parts : Parts) → message_at endian bytes ≡ Ok parts → Said endian bytes parts
message_said endian bytes parts e = fielded_said endian bytes (fields_at endian bytes) parts refl e

pub said_message : (endian : Endian) (bytes : List ℕ) (parts : Parts) → Said endian bytes parts → message_at endian bytes ≡ Ok parts
said_message endian bytes parts it =
    ap (fielded_message endian bytes) it.headed
    ∙ ap (λ (b : Bool). cond b (bodied_message endian bytes it.fields (result_ok (values_at endian (body_types it.fields) (record { place = 0; left = drop (body_start endian bytes) bytes })))) (Err violation.MissingField)) it.needed
    ∙ ap (λ (read : Result Vals ValueFault). bodied_message endian bytes it.fields (result_ok read)) it.bodied
    ∙ ap (λ (p : Parts). said p) (sym it.says)

-- ---- reading and spelling

pub IsBytes-drop : (n : ℕ) (bytes : List ℕ) → IsBytes bytes → IsBytes (drop n bytes)
IsBytes-drop n bytes fits i = rw get_or-drop (fits (n + i))

pub IsBytes-take : (n : ℕ) (bytes : List ℕ) → IsBytes bytes → IsBytes (take n bytes)
IsBytes-take n bytes fits i = elim (cases_lt i n) [
  | inl lt ↦ rw (get_or-take n bytes i 0 lt) (fits i)
  | inr le ↦ rw (get_or_past (take n bytes) i 0 (omega (arith, length-take n bytes))) (omega arith)
]

abbrev option_fields : Fields → Option Fields
option_fields fields = Some fields

-- fields that are read are spelled that way
read_fields : (endian : Endian) (bytes : List ℕ) (fields : Fields) (zero : Bool) (read : Result Vals ValueFault) → IsBytes bytes
    → are_zero (take (padding 8 (word_at endian 12 bytes)) (drop (fields_end endian bytes) bytes)) ≡ zero
    → values_at endian field_types (at 4 (take (4 + word_at endian 12 bytes) (drop 12 bytes))) ≡ read
    → cond zero (option_and_then fields_in (result_ok read)) None ≡ Some fields → HasFields endian bytes fields
read_fields endian bytes fields true (Ok array) fits padded is e =
    record {
      array = array;
      spelled = values_found endian field_types 4 (take (4 + word_at endian 12 bytes) (drop 12 bytes)) array (lit< tt) (IsBytes-take (4 + word_at endian 12 bytes) (drop 12 bytes) (IsBytes-drop 12 bytes fits)) is;
      padded = padded;
      are = e;
    }
read_fields endian bytes fields true (Err fault) fits padded is e = absurd cc
read_fields endian bytes fields false read fits padded is e = absurd cc

has_fields : (endian : Endian) (bytes : List ℕ) (fields : Fields) → IsBytes bytes → fields_at endian bytes ≡ Some fields → HasFields endian bytes fields
unfolding fields_at
has_fields endian bytes fields fits e =
    read_fields endian bytes fields (are_zero (take (padding 8 (word_at endian 12 bytes)) (drop (fields_end endian bytes) bytes)))
    (values_at endian field_types (at 4 (take (4 + word_at endian 12 bytes) (drop 12 bytes)))) fits refl refl e

fields_read : (endian : Endian) (bytes : List ℕ) (fields : Fields) → HasFields endian bytes fields → fields_at endian bytes ≡ Some fields
unfolding fields_at
fields_read endian bytes fields it =
    let read = values_only endian field_types 4 (take (4 + word_at endian 12 bytes) (drop 12 bytes)) it.array (lit< tt) refl it.spelled in
    ap (λ (zero : Bool). cond zero (option_and_then fields_in (result_ok (values_at endian field_types (at 4 (take (4 + word_at endian 12 bytes) (drop 12 bytes)))))) None) it.padded
    ∙ ap (λ (values : Result Vals ValueFault). option_and_then fields_in (result_ok values)) read ∙ it.are

-- what is read from complete bytes is a message
pub is_message : (most : ℕ) (bytes : List ℕ) (head : Head) (parts : Parts) → head_of most bytes ≡ Ok head → length bytes ≡ head.size
    → IsBytes bytes → is_signature parts.signature ≡ true → message_at head.endian bytes ≡ Ok parts → IsMessage most bytes parts
is_message most bytes head parts known long fits listed read =
    let start = heads most bytes head known in
    let it = message_said head.endian bytes parts read in
    record {
      endian = head.endian;
      fields = it.fields;
      body = it.body;
      begun = omega (arith, start.size, size_begun head.endian bytes);
      marked = start.marked;
      typed = start.passes.typed;
      version = start.passes.version;
      numbered = start.passes.numbered;
      whole = long ∙ start.size;
      within = omega (arith, start.size, start.passes.within);
      headed = has_fields head.endian bytes it.fields fits it.headed;
      needed = it.needed;
      listed = sym (ap (λ (p : Parts). is_signature p.signature) it.says) ∙ listed;
      bodied = values_found head.endian (body_types it.fields) 0 (drop (body_start head.endian bytes) bytes) it.body (lit< tt) (IsBytes-drop (body_start head.endian bytes) bytes fits) it.bodied;
      says = it.says;
    }

-- a message's first bytes show no violation, whatever follows
pub message_head : (most : ℕ) (bytes more : List ℕ) (parts : Parts) (m : IsMessage most bytes parts)
    → head_of most (bytes ++ more) ≡ Ok (record { endian = m.endian; size = length bytes })
message_head most bytes more parts m =
    head_stays most bytes more m.begun
    ∙ subst (λ (n : ℕ). head_of most bytes ≡ Ok (record { endian = m.endian; size = n })) (sym m.whole)
    (passed most m.endian bytes m.marked (record { typed = m.typed; version = m.version; numbered = m.numbered; within = omega (arith, m.whole, m.within) }))

pub message_read : (most : ℕ) (bytes : List ℕ) (parts : Parts) (m : IsMessage most bytes parts) → message_at m.endian bytes ≡ Ok parts
message_read most bytes parts m = said_message m.endian bytes parts (record {
  fields = m.fields;
  body = m.body;
  headed = fields_read m.endian bytes m.fields m.headed;
  needed = m.needed;
  bodied = values_only m.endian (body_types m.fields) 0 (drop (body_start m.endian bytes) bytes) m.body (lit< tt) m.listed m.bodied;
  says = m.says;
})

abbrev head_is : Head → Result Head Violation
head_is head = Ok head

pub same_head : (most : ℕ) (bytes : List ℕ) (one other : Head) → head_of most bytes ≡ Ok one → head_of most bytes ≡ Ok other → one ≡ other
same_head most bytes one other p q = let e : head_is one ≡ head_is other = sym p ∙ q in cc

abbrev option_is : Endian → Option Endian
option_is endian = Some endian

some_endian : (one other : Endian) → option_is one ≡ option_is other → one ≡ other
some_endian one other e = cc

-- A message before others is as long as its first bytes say.
pub no_longer : (most more : ℕ) (spelling behind : List ℕ) (one other : Parts) → IsMessage most spelling one → IsMessage more (spelling ++ behind) other → behind ≡ []
no_longer most more spelling behind one other m n =
    let same = start_stays spelling behind m.begun in
    let marks : option_is n.endian ≡ option_is m.endian = sym n.marked ∙ ap endian_of same.mark ∙ m.marked in
    let endian = some_endian n.endian m.endian marks in
    let size = size_same m.endian (spelling ++ behind) spelling same in
    let long : length (spelling ++ behind) ≡ length spelling = n.whole ∙ ap (λ (e : Endian). size_at e (spelling ++ behind)) endian ∙ size ∙ sym m.whole in
    nil_from_length behind (omega (arith, long, length-append spelling behind))

pub one_meaning : (most : ℕ) (bytes : List ℕ) (one other : Parts) → IsMessage most bytes one → IsMessage most bytes other → one ≡ other
one_meaning most bytes one other m n =
    let endian = some_endian m.endian n.endian (sym m.marked ∙ n.marked) in
    said_is one other (sym (message_read most bytes one m) ∙ ap (λ (e : Endian). message_at e bytes) endian ∙ message_read most bytes other n)
