-- Fields that are put one after the other are the fields of a header, and a header, padding and a body are the message.
use Rattle.std.proofs.Common.{◌≡◌, ℕ, ◌%◌, ◌==◌, Bool, false, List, [], ◌∷◌, ◌++◌, length, Option, Some, None, refl, ap, sym, arith, ◌∙◌}
use Rattle.dbus_types.specs.declared.complete_type.BasicType.TheVariants as basics
use Rattle.dbus_types.specs.declared.endian.Endian.TheVariants.{Little}
use Rattle.dbus_types.specs.Types.{texts_of}
use Rattle.dbus_types.specs.Values.{Val, Vals, tys_of}
use Rattle.dbus_marshal.specs.Spelling.{all_spelled}
use Rattle.dbus_marshal.specs.Putting.{padded, put, puts, signed}
use Rattle.dbus_marshal.proofs.PutLemmas.{puts_all, puts_at, place-padded, signature_value, variant_put, struct_of_2}
use Rattle.dbus_marshal.proofs.WritingLemmas.{number_mod32}
use Rattle.dbus_marshal.specs.Wire.{padding, zeros}
use Rattle.dbus_framing.specs.Headers.{field_type}
use Rattle.dbus_sending.specs.Sent.{SentHeader, Sent, row, rows_of, signature_of, header_of, spelled_message}

-- a field, and those after it
row_put : {A : Type 0} (before : List ℕ) (code : ℕ) (value : A → Val) (it : Option A) (rest : Vals) → puts (puts before (row code value it Vals.end)) rest ≡ puts before (row code value it rest)
row_put before code value None rest = refl
row_put before code value (Some it) rest = refl

-- one field
abbrev one : {A : Type 0} → ℕ → (A → Val) → Option A → Vals
one code value it = row code value it Vals.end

pub rows_put : (before : List ℕ) (header : SentHeader) (signature : List ℕ)
    → puts (puts (puts (puts (puts (puts (puts (puts before (one 1 (Val.text basics.ObjectPath) header.path)) (one 2 (Val.text basics.String) header.interface)) (one 3 (Val.text basics.String) header.member))
    (one 4 (Val.text basics.String) header.error_name)) (one 5 (Val.number basics.Uint32) header.reply_serial)) (one 6 (Val.text basics.String) header.destination))
    (one 7 (Val.text basics.String) header.sender)) (one 8 (Val.text basics.Signature) (signature_of signature)) ≡ puts before (rows_of header signature)
rows_put before header signature =
    let r8 = one 8 (Val.text basics.Signature) (signature_of signature) in
    let r7 = row 7 (Val.text basics.String) header.sender r8 in
    let r6 = row 6 (Val.text basics.String) header.destination r7 in
    let r5 = row 5 (Val.number basics.Uint32) header.reply_serial r6 in
    let r4 = row 4 (Val.text basics.String) header.error_name r5 in
    let r3 = row 3 (Val.text basics.String) header.member r4 in
    let r2 = row 2 (Val.text basics.String) header.interface r3 in
    row_put _ 7 (Val.text basics.String) header.sender r8 ∙ row_put _ 6 (Val.text basics.String) header.destination r7 ∙ row_put _ 5 (Val.number basics.Uint32) header.reply_serial r6
    ∙ row_put _ 4 (Val.text basics.String) header.error_name r5 ∙ row_put _ 3 (Val.text basics.String) header.member r4 ∙ row_put _ 2 (Val.text basics.String) header.interface r3
    ∙ row_put before 1 (Val.text basics.ObjectPath) header.path r2

-- ---- the field SIGNATURE

pub some_text : (text : List ℕ) (empty : Bool) → empty ≡ (length text == 0) → empty ≡ false → signature_of text ≡ Some text
some_text [] empty is filled = absurd cc
some_text (code ∷ codes) empty is filled = refl

pub signature_row : (before text : List ℕ) → signature_of text ≡ Some text
    → signed text (signed (103 ∷ []) (put (padded 8 before) (Val.number basics.Byte 8))) ≡ puts before (row 8 (Val.text basics.Signature) (signature_of text) Vals.end)
signature_row before text some =
    let value = Val.text basics.Signature text in
    let coded = put (padded 8 before) (Val.number basics.Byte 8) in
    signature_value (signed (103 ∷ []) coded) text ∙ variant_put coded value ∙ struct_of_2 before (Val.number basics.Byte 8) (Val.variant value)
    ∙ ap (λ (it : Option (List ℕ)). puts before (row 8 (Val.text basics.Signature) it Vals.end)) (sym some)

-- ---- the whole message

place-8 : (before : List ℕ) → length (padded 8 before) % 8 ≡ 0
place-8 before = place-padded 8 before ∙ omega arith

-- the lower bits of the body's length are written
low_put : (before : List ℕ) (n : ℕ) → put before (Val.number basics.Uint32 (n % 4294967296)) ≡ put before (Val.number basics.Uint32 n)
unfolding put
low_put before n = ap (λ (x : List ℕ). before ++ (zeros (padding 4 (length before % 8)) ++ x)) (number_mod32 Little n)

abbrev four : ℕ → ℕ → List ℕ
four kind flags = put (put (put (put [] (Val.number basics.Byte 108)) (Val.number basics.Byte kind)) (Val.number basics.Byte flags)) (Val.number basics.Byte 1)

pub message_put : (sent : Sent) (signature : List ℕ) (count : ℕ) → signature ≡ texts_of (tys_of sent.body) → count ≡ length (all_spelled Little sent.body 0) % 4294967296
    → puts (padded 8 (put (put (put (four sent.header.kind sent.header.flags) (Val.number basics.Uint32 count)) (Val.number basics.Uint32 sent.header.serial)) (Val.array field_type (rows_of sent.header signature)))) sent.body
    ≡ spelled_message sent
message_put sent signature count lists is =
    let F = four sent.header.kind sent.header.flags in
    let after : List ℕ → List ℕ → List ℕ = λ x text. puts (padded 8 (put (put x (Val.number basics.Uint32 sent.header.serial)) (Val.array field_type (rows_of sent.header text)))) sent.body in
    let types = texts_of (tys_of sent.body) in
    ap (after (put F (Val.number basics.Uint32 count))) lists
    ∙ ap (λ n. after (put F (Val.number basics.Uint32 n)) types) is ∙ ap (λ x. after x types) (low_put F (length (all_spelled Little sent.body 0)))
    ∙ ap (λ (x : List ℕ). puts (padded 8 x) sent.body) (puts_all [] (header_of sent))
    ∙ puts_at (padded 8 (all_spelled Little (header_of sent) 0)) sent.body 0 (place-8 (all_spelled Little (header_of sent) 0))
