-- The fields of a header that is sent: they are read back unchanged, they have a spelling, and none of them
-- is an array.
use Rattle.std.proofs.Common.{◌≡◌, ◌≢◌, ℕ, ◌^◌, ◌<◌, ◌==◌, ◌&&◌, Bool, true, false, IsTrue, List, Option, Some, None, IfSome, option_map, option_and_then, Result, refl, ap, subst, sym, ◌∙◌, arith, rules, if◌then◌else◌}
use Rattle.std.specs.Result.{result_ok}
use Rattle.dbus_types.specs.declared.complete_type.BasicType.TheVariants as basics
use Rattle.dbus_types.specs.declared.endian.Endian.TheVariants.{Little}
use Rattle.dbus_types.specs.declared.signature.SignatureFault.{SignatureFault}
use Rattle.dbus_types.specs.Types.{Ty, Tys, texts_of, is_signature}
use Rattle.dbus_types.specs.Values.{Val, Vals, ty_of, tys_of}
use Rattle.dbus_types.proofs.SignatureLaws.{signature_again}
use Rattle.dbus_marshal.specs.Wire.{IsTextOf}
use Rattle.dbus_marshal.specs.Fitting.{Fits, EachFits}
use Rattle.dbus_marshal.specs.Spelling.{is_short, are_short}
use Rattle.dbus_framing.specs.Headers.{Fields, no_fields, field_type, kind_of, once, where_is, with_field, with_values}
use Rattle.dbus_sending.specs.Sent.{SentHeader, Sent, CanBeSent, IsName, IsMember, IsSerial, field_value, row, fields_of, signature_of, types_listed, fields_read}

-- ---- what is read

-- a field that is read in this way, before others
reads : (fields : Fields) (code : ℕ) (value : Val) (rest : Vals) (next : Fields) → with_field fields (kind_of code) value ≡ Some next
    → with_values fields (Vals.more (field_value code value) rest) ≡ with_values next rest
reads fields code value rest next is = ap (option_and_then (λ (f : Fields). with_values f rest)) is

abbrev with_path : Option (List ℕ) → Fields
with_path path = record no_fields { path = path }

abbrev with_interface : Option (List ℕ) → Option (List ℕ) → Fields
with_interface path interface = record no_fields { path = path; interface = interface }

abbrev with_member : Option (List ℕ) → Option (List ℕ) → Option (List ℕ) → Fields
with_member path interface member = record no_fields { path = path; interface = interface; member = member }

abbrev with_error : Option (List ℕ) → Option (List ℕ) → Option (List ℕ) → Option (List ℕ) → Fields
with_error path interface member error = record no_fields { path = path; interface = interface; member = member; error_name = error }

abbrev with_reply : Option (List ℕ) → Option (List ℕ) → Option (List ℕ) → Option (List ℕ) → Option ℕ → Fields
with_reply path interface member error reply =
    record no_fields { path = path; interface = interface; member = member; error_name = error; reply_serial = reply }

read_path : (path : Option (List ℕ)) (rest : Vals) → with_values no_fields (row 1 (Val.text basics.ObjectPath) path rest) ≡ with_values (with_path path) rest
read_path None rest = refl
read_path (Some it) rest = refl

read_interface : (path interface : Option (List ℕ)) (rest : Vals) → IfSome interface IsName
    → with_values (with_path path) (row 2 (Val.text basics.String) interface rest) ≡ with_values (with_interface path interface) rest
read_interface path None rest is = refl
read_interface path (Some it) rest is =
    reads (with_path path) 2 (Val.text basics.String it) rest (with_interface path (Some it))
    (ap (λ b. option_map (λ (x : List ℕ). with_interface path (Some x)) (once None (where_is b it))) is.1)

read_member : (path interface member : Option (List ℕ)) (rest : Vals) → IfSome member IsMember
    → with_values (with_interface path interface) (row 3 (Val.text basics.String) member rest) ≡ with_values (with_member path interface member) rest
read_member path interface None rest is = refl
read_member path interface (Some it) rest is =
    reads (with_interface path interface) 3 (Val.text basics.String it) rest (with_member path interface (Some it))
    (ap (λ b. option_map (λ (x : List ℕ). with_member path interface (Some x)) (once None (where_is b it))) is.1)

read_error : (path interface member error : Option (List ℕ)) (rest : Vals) → IfSome error IsName
    → with_values (with_member path interface member) (row 4 (Val.text basics.String) error rest) ≡ with_values (with_error path interface member error) rest
read_error path interface member None rest is = refl
read_error path interface member (Some it) rest is =
    reads (with_member path interface member) 4 (Val.text basics.String it) rest (with_error path interface member (Some it))
    (ap (λ b. option_map (λ (x : List ℕ). with_error path interface member (Some x)) (once None (where_is b it))) is.1)

is_zero : (n : ℕ) → n ≢ 0 → (n == 0) ≡ false
is_zero n some = search rules

read_reply : (path interface member error : Option (List ℕ)) (reply : Option ℕ) (rest : Vals) → IfSome reply IsSerial
    → with_values (with_error path interface member error) (row 5 (Val.number basics.Uint32) reply rest) ≡ with_values (with_reply path interface member error reply) rest
read_reply path interface member error None rest is = refl
read_reply path interface member error (Some it) rest is =
    reads (with_error path interface member error) 5 (Val.number basics.Uint32 it) rest (with_reply path interface member error (Some it))
    (ap (λ (b : Bool). option_map (λ (x : ℕ). with_reply path interface member error (Some x)) (once None (if b then None else Some it))) (is_zero it is.0))

-- the fields after REPLY_SERIAL
abbrev with_destination : Fields → Option (List ℕ) → Fields
with_destination fields destination = record fields { destination = destination }

abbrev with_sender : Fields → Option (List ℕ) → Option (List ℕ) → Fields
with_sender fields destination sender = record fields { destination = destination; sender = sender }

abbrev with_signature : Fields → Option (List ℕ) → Option (List ℕ) → Option Tys → Fields
with_signature fields destination sender signature = record fields { destination = destination; sender = sender; signature = signature }

read_destination : (path interface member error : Option (List ℕ)) (reply : Option ℕ) (destination : Option (List ℕ)) (rest : Vals)
    → with_values (with_reply path interface member error reply) (row 6 (Val.text basics.String) destination rest)
    ≡ with_values (with_destination (with_reply path interface member error reply) destination) rest
read_destination path interface member error reply None rest = refl
read_destination path interface member error reply (Some it) rest = refl

read_sender : (path interface member error : Option (List ℕ)) (reply : Option ℕ) (destination sender : Option (List ℕ)) (rest : Vals)
    → with_values (with_destination (with_reply path interface member error reply) destination) (row 7 (Val.text basics.String) sender rest)
    ≡ with_values (with_sender (with_reply path interface member error reply) destination sender) rest
read_sender path interface member error reply destination None rest = refl
read_sender path interface member error reply destination (Some it) rest = refl

-- a list of types that isn't empty has a signature
signed : (t : Ty) (ts : Tys) → signature_of (texts_of (Tys.more t ts)) ≡ Some (texts_of (Tys.more t ts))
signed (Ty.basic b) ts = refl
signed Ty.variant ts = refl
signed (Ty.array t) ts = refl
signed (Ty.struct us) ts = refl
signed (Ty.entry key t) ts = refl

read_signature : (path interface member error : Option (List ℕ)) (reply : Option ℕ) (destination sender : Option (List ℕ)) (ts : Tys) → IsTrue (is_signature ts)
    → with_values (with_sender (with_reply path interface member error reply) destination sender) (row 8 (Val.text basics.Signature) (signature_of (texts_of ts)) Vals.end)
    ≡ Some (with_signature (with_reply path interface member error reply) destination sender (types_listed ts))
read_signature path interface member error reply destination sender Tys.end is = refl
read_signature path interface member error reply destination sender (Tys.more t ts) is =
    let fields = with_reply path interface member error reply in
    let before = with_sender fields destination sender in
    ap (λ (text : Option (List ℕ)). with_values before (row 8 (Val.text basics.Signature) text Vals.end)) (signed t ts)
    ∙ reads before 8 (Val.text basics.Signature (texts_of (Tys.more t ts))) Vals.end (with_signature fields destination sender (Some (Tys.more t ts)))
    (ap (λ (listed : Result Tys SignatureFault). option_map (λ (x : Tys). with_signature fields destination sender (Some x)) (once None (result_ok listed))) (signature_again (Tys.more t ts) is))

-- the fields from SIGNATURE on, from SENDER on, and so on to all except PATH
abbrev from_8 : List ℕ → Vals
from_8 text = row 8 (Val.text basics.Signature) (signature_of text) Vals.end

abbrev from_7 : SentHeader → List ℕ → Vals
from_7 h text = row 7 (Val.text basics.String) h.sender (from_8 text)

abbrev from_6 : SentHeader → List ℕ → Vals
from_6 h text = row 6 (Val.text basics.String) h.destination (from_7 h text)

abbrev from_5 : SentHeader → List ℕ → Vals
from_5 h text = row 5 (Val.number basics.Uint32) h.reply_serial (from_6 h text)

abbrev from_4 : SentHeader → List ℕ → Vals
from_4 h text = row 4 (Val.text basics.String) h.error_name (from_5 h text)

abbrev from_3 : SentHeader → List ℕ → Vals
from_3 h text = row 3 (Val.text basics.String) h.member (from_4 h text)

abbrev from_2 : SentHeader → List ℕ → Vals
from_2 h text = row 2 (Val.text basics.String) h.interface (from_3 h text)

-- each field is read back unchanged
pub fields_again : (sent : Sent) → CanBeSent sent → with_values no_fields (fields_of sent) ≡ Some (fields_read sent)
fields_again sent can =
    let h = sent.header in
    let text = texts_of (tys_of sent.body) in
    read_path h.path (from_2 h text)
    ∙ read_interface h.path h.interface (from_3 h text) can.header.interface
    ∙ read_member h.path h.interface h.member (from_4 h text) can.header.member
    ∙ read_error h.path h.interface h.member h.error_name (from_5 h text) can.header.error_name
    ∙ read_reply h.path h.interface h.member h.error_name h.reply_serial (from_6 h text) can.header.reply_serial
    ∙ read_destination h.path h.interface h.member h.error_name h.reply_serial h.destination (from_7 h text)
    ∙ read_sender h.path h.interface h.member h.error_name h.reply_serial h.destination h.sender (from_8 text)
    ∙ read_signature h.path h.interface h.member h.error_name h.reply_serial h.destination h.sender (tys_of sent.body) can.listed

-- ---- that they have a spelling

-- a value that a field can have: of one type, and not a container
pub record IsFieldValue (value : Val) : Type 0 where
  pub listed : IsTrue (is_signature (Tys.more (ty_of value) Tys.end))
  pub fits : Fits 61 (ty_of value) value
  pub short : (place : ℕ) → is_short Little value place ≡ true

text_value : (text : List ℕ) → IsTextOf basics.String text → IsFieldValue (Val.text basics.String text)
text_value text is = record { listed = refl; fits = (refl, is); short = λ place. refl }

path_value : (text : List ℕ) → IsTextOf basics.ObjectPath text → IsFieldValue (Val.text basics.ObjectPath text)
path_value text is = record { listed = refl; fits = (refl, is); short = λ place. refl }

number_value : (n : ℕ) → n < 2 ^ 32 → IsFieldValue (Val.number basics.Uint32 n)
number_value n is = record { listed = refl; fits = (refl, is); short = λ place. refl }

signature_value : (ts : Tys) → IsTrue (is_signature ts) → IsFieldValue (Val.text basics.Signature (texts_of ts))
signature_value ts is = record { listed = refl; fits = (refl, (ts, is, refl)); short = λ place. refl }

-- fields that have a spelling, without a long array among them
pub record AreRows (rows : Vals) : Type 0 where
  pub fit : EachFits 63 field_type rows
  pub short : (place : ℕ) → are_short Little rows place ≡ true

both : (a b : Bool) → a ≡ true → b ≡ true → ((a && true) && b) ≡ true
both a b is so = rw (is, so) refl

one_row : (code : ℕ) (value : Val) (rest : Vals) → code < 2 ^ 8 → IsFieldValue value → AreRows rest → AreRows (Vals.more (field_value code value) rest)
one_row code value rest small is are = record {
  fit = (((refl, small), ((is.listed, is.fits), tt)), are.fit);
  short = λ place. both _ _ (is.short _) (are.short _);
}

rows : {A : Type 0} (code : ℕ) (value : A → Val) (P : A → Type 0) (it : Option A) (rest : Vals) → code < 2 ^ 8 → IfSome it P → ((x : A) → P x → IsFieldValue (value x)) → AreRows rest
    → AreRows (row code value it rest)
rows code value P None rest small has is are = are
rows code value P (Some it) rest small has is are = one_row code (value it) rest small (is it has) are

signature_rows : (ts : Tys) → IsTrue (is_signature ts) → AreRows (row 8 (Val.text basics.Signature) (signature_of (texts_of ts)) Vals.end)
signature_rows Tys.end is = record { fit = tt; short = λ place. refl }
signature_rows (Tys.more t ts) is =
    subst (λ (text : Option (List ℕ)). AreRows (row 8 (Val.text basics.Signature) text Vals.end)) (sym (signed t ts))
    (one_row 8 (Val.text basics.Signature (texts_of (Tys.more t ts))) Vals.end (omega arith) (signature_value (Tys.more t ts) is) (record { fit = tt; short = λ place. refl }))

pub fields_fit : (sent : Sent) → CanBeSent sent → AreRows (fields_of sent)
fields_fit sent can =
    let h = sent.header in
    let has = can.header in
    let text = texts_of (tys_of sent.body) in
    rows 1 (Val.text basics.ObjectPath) (IsTextOf basics.ObjectPath) h.path (from_2 h text) (omega arith) has.path path_value
    (rows 2 (Val.text basics.String) IsName h.interface (from_3 h text) (omega arith) has.interface (λ x is. text_value x is.0)
    (rows 3 (Val.text basics.String) IsMember h.member (from_4 h text) (omega arith) has.member (λ x is. text_value x is.0)
    (rows 4 (Val.text basics.String) IsName h.error_name (from_5 h text) (omega arith) has.error_name (λ x is. text_value x is.0)
    (rows 5 (Val.number basics.Uint32) IsSerial h.reply_serial (from_6 h text) (omega arith) has.reply_serial (λ x is. number_value x is.1)
    (rows 6 (Val.text basics.String) (IsTextOf basics.String) h.destination (from_7 h text) (omega arith) has.destination text_value
    (rows 7 (Val.text basics.String) (IsTextOf basics.String) h.sender (from_8 text) (omega arith) has.sender text_value
    (signature_rows (tys_of sent.body) can.listed)))))))
