-- What is sent is a message, and says what was sent.
use Rattle.std.proofs.Common.{◌≡◌, ℕ, ◌+◌, ◌%◌, ◌^◌, ◌<◌, ◌≤◌, ◌&&◌, nat_le, true, zero, suc, List, [], ◌∷◌, ◌++◌, length, take, drop, unwrap_or, refl, ap, subst, ◌∙◌, sym, arith, length-append, append_assoc, append-nil}
use Rattle.std.proofs.Math.Seq.{take-append_seam, drop-append_seam}
use Rattle.std.proofs.lemmas.Bool.{le-leb}
use Rattle.std.proofs.lemmas.Nat.{from_le_bytes-to_le_bytes_4}
use Rattle.std.specs.Int.{w32}
use Rattle.dbus_types.specs.declared.endian.Endian.TheVariants.{Little}
use Rattle.dbus_types.specs.Types.{Tys, is_signature}
use Rattle.dbus_types.specs.Values.{Val, Vals, tys_of}
use Rattle.dbus_marshal.specs.Limits.{array_limit}
use Rattle.dbus_marshal.specs.Wire.{padding, zeros, number_bytes, number_from}
use Rattle.dbus_marshal.specs.Unmarshal.{are_zero}
use Rattle.dbus_marshal.specs.Spelling.{all_spelled, are_short}
use Rattle.dbus_marshal.specs.Marshals.{AreSpelled}
use Rattle.dbus_marshal.proofs.MarshalLaws.{marshal_spelled}
use Rattle.dbus_marshal.proofs.WritingLemmas.{zeros_long}
use Rattle.dbus_framing.specs.Headers.{field_type}
use Rattle.dbus_framing.specs.Messages.{IsMessage, word_at, fields_end, body_start, field_types, body_types, parts_from}
use Rattle.dbus_sending.specs.Sent.{Sent, CanBeSent, fields_of, types_listed, fields_read, header_of, spelled_message, said_by}
use Rattle.dbus_sending.proofs.FieldLemmas.{fields_again, AreRows, fields_fit}

-- ---- the bytes, part by part

abbrev word : ℕ → List ℕ
word n = number_bytes Little w32 n

-- the first 16 bytes
abbrev front : ℕ → ℕ → ℕ → ℕ → ℕ → List ℕ
front kind flags body serial fields = 108 ∷ kind ∷ flags ∷ 1 ∷ (word body ++ (word serial ++ word fields))

abbrev fields_in : Sent → List ℕ
fields_in sent = all_spelled Little (fields_of sent) 0

abbrev body_in : Sent → List ℕ
body_in sent = all_spelled Little sent.body 0

abbrev gap : Sent → List ℕ
gap sent = zeros (padding 8 (length (fields_in sent)))

abbrev whole : Sent → List ℕ
whole sent = front sent.header.kind sent.header.flags (length (body_in sent)) sent.header.serial (length (fields_in sent)) ++ (fields_in sent ++ (gap sent ++ body_in sent))

front-length : (kind flags body serial fields : ℕ) → length (front kind flags body serial fields) ≡ 16
unfolding number_bytes
front-length kind flags body serial fields = refl

small : (n : ℕ) → n < 2 ^ 8 → n % 256 ≡ n
small n is = omega (arith, is)

-- the header is 16 bytes and the fields
header_is : (sent : Sent) → all_spelled Little (header_of sent) 0
    ≡ front (sent.header.kind % 256) (sent.header.flags % 256) (length (body_in sent)) sent.header.serial (length (fields_in sent)) ++ (fields_in sent ++ [])
unfolding number_bytes
header_is sent = refl

padding-length : (n : ℕ) → padding 8 ((16 + n) % 8) ≡ padding 8 n
padding-length n = omega arith

pub whole_is : (sent : Sent) → CanBeSent sent → spelled_message sent ≡ whole sent
whole_is sent can =
    let F = front sent.header.kind sent.header.flags (length (body_in sent)) sent.header.serial (length (fields_in sent)) in
    let fields = fields_in sent in
    let header : all_spelled Little (header_of sent) 0 ≡ F ++ fields =
    header_is sent
    ∙ ap (λ k. front k (sent.header.flags % 256) (length (body_in sent)) sent.header.serial (length fields) ++ (fields ++ [])) (small sent.header.kind can.header.kind)
    ∙ ap (λ k. front sent.header.kind k (length (body_in sent)) sent.header.serial (length fields) ++ (fields ++ [])) (small sent.header.flags can.header.flags)
    ∙ ap (λ (x : List ℕ). F ++ x) (append-nil fields) in
    let long : length (F ++ fields) ≡ 16 + length fields =
    length-append F fields ∙ ap (λ n. n + length fields) (front-length sent.header.kind sent.header.flags (length (body_in sent)) sent.header.serial (length fields)) in
    ap (λ (x : List ℕ). (x ++ zeros (padding 8 (length x % 8))) ++ body_in sent) header
    ∙ ap (λ n. ((F ++ fields) ++ zeros (padding 8 (n % 8))) ++ body_in sent) long
    ∙ ap (λ n. ((F ++ fields) ++ zeros n) ++ body_in sent) (padding-length (length fields))
    ∙ append_assoc (F ++ fields) (gap sent) (body_in sent) ∙ append_assoc F fields (gap sent ++ body_in sent)

-- ---- what is read from them

word_back : (n : ℕ) → n < 2 ^ 32 → number_from Little w32 (word n) ≡ n
unfolding number_bytes number_from
word_back n fits = from_le_bytes-to_le_bytes_4 n fits

at-4 : (kind flags body serial fields : ℕ) (rest : List ℕ) → word_at Little 4 (front kind flags body serial fields ++ rest) ≡ number_from Little w32 (word body)
unfolding number_bytes word_at
at-4 kind flags body serial fields rest = refl

at-8 : (kind flags body serial fields : ℕ) (rest : List ℕ) → word_at Little 8 (front kind flags body serial fields ++ rest) ≡ number_from Little w32 (word serial)
unfolding number_bytes word_at
at-8 kind flags body serial fields rest = refl

at-12 : (kind flags body serial fields : ℕ) (rest : List ℕ) → word_at Little 12 (front kind flags body serial fields ++ rest) ≡ number_from Little w32 (word fields)
unfolding number_bytes word_at
at-12 kind flags body serial fields rest = refl

after-12 : (kind flags body serial fields : ℕ) (rest : List ℕ) → drop 12 (front kind flags body serial fields ++ rest) ≡ word fields ++ rest
unfolding number_bytes
after-12 kind flags body serial fields rest = refl

word-length : (n : ℕ) → length (word n) ≡ 4
unfolding number_bytes
word-length n = refl

zero_front : (n : ℕ) (rest : List ℕ) → are_zero (take n (zeros n ++ rest)) ≡ true
zero_front zero rest = refl
zero_front (suc n) rest = zero_front n rest

-- a list that begins with this prefix continues after it
behind : (front rest bytes : List ℕ) (n : ℕ) → bytes ≡ front ++ rest → length front ≡ n → drop n bytes ≡ rest
behind front rest bytes n is long = ap (λ (x : List ℕ). drop n x) is ∙ ap (λ k. drop k (front ++ rest)) (sym long) ∙ drop-append_seam front rest

-- and begins with it
before : (front rest bytes : List ℕ) (n : ℕ) → bytes ≡ front ++ rest → length front ≡ n → take n bytes ≡ front
before front rest bytes n is long = ap (λ (x : List ℕ). take n x) is ∙ ap (λ k. take k (front ++ rest)) (sym long) ∙ take-append_seam front rest

listed_types : (ts : Tys) → unwrap_or (types_listed ts) Tys.end ≡ ts
listed_types Tys.end = refl
listed_types (Tys.more t ts) = refl

abbrev array_of : Sent → Vals
array_of sent = Vals.more (Val.array field_type (fields_of sent)) Vals.end

array_spelled : (sent : Sent) → word (length (fields_in sent)) ++ fields_in sent ≡ all_spelled Little (array_of sent) 4
unfolding number_bytes
array_spelled sent = sym (append-nil (word (length (fields_in sent)) ++ fields_in sent))

array_short : (sent : Sent) → AreRows (fields_of sent) → length (fields_in sent) ≤ array_limit → are_short Little (array_of sent) 4 ≡ true
unfolding number_bytes
array_short sent are short =
    ap (λ b. (b && nat_le (length (fields_in sent)) array_limit) && true) (are.short 0) ∙ ap (λ b. (true && b) && true) (le-leb (length (fields_in sent)) array_limit short)

pub sent_is_message : (most : ℕ) (sent : Sent) → CanBeSent sent → length (spelled_message sent) ≤ most → IsMessage most (spelled_message sent) (said_by sent)
sent_is_message most sent can within =
    let bytes = whole sent in
    let is : spelled_message sent ≡ bytes = whole_is sent can in
    let fields = fields_in sent in
    let body = body_in sent in
    let F = front sent.header.kind sent.header.flags (length body) sent.header.serial (length fields) in
    let rest = fields ++ (gap sent ++ body) in
    let of_body : word_at Little 4 bytes ≡ length body = at-4 sent.header.kind sent.header.flags (length body) sent.header.serial (length fields) rest ∙ word_back (length body) can.body_short in
    let of_serial : word_at Little 8 bytes ≡ sent.header.serial = at-8 sent.header.kind sent.header.flags (length body) sent.header.serial (length fields) rest ∙ word_back sent.header.serial can.header.serial.1 in
    let of_fields : word_at Little 12 bytes ≡ length fields =
    at-12 sent.header.kind sent.header.flags (length body) sent.header.serial (length fields) rest ∙ word_back (length fields) (omega (arith, can.fields_short)) in
    let long_front : length F ≡ 16 = front-length sent.header.kind sent.header.flags (length body) sent.header.serial (length fields) in
    let long_gap : length (gap sent) ≡ padding 8 (length fields) = zeros_long (padding 8 (length fields)) in
    let start : body_start Little bytes ≡ 16 + length fields + padding 8 (length fields) = ap (λ n. 16 + n + padding 8 n) of_fields in
    let all : length bytes ≡ 16 + length fields + padding 8 (length fields) + length body =
    length-append F rest ∙ omega (arith, long_front, long_gap, length-append fields (gap sent ++ body), length-append (gap sent) body) in
    let long_head : length (F ++ fields) ≡ 16 + length fields = length-append F fields ∙ ap (λ n. n + length fields) long_front in
    let array : take (4 + word_at Little 12 bytes) (drop 12 bytes) ≡ word (length fields) ++ fields =
    before (word (length fields) ++ fields) (gap sent ++ body) (drop 12 bytes) (4 + word_at Little 12 bytes)
    (after-12 sent.header.kind sent.header.flags (length body) sent.header.serial (length fields) rest ∙ sym (append_assoc (word (length fields)) fields (gap sent ++ body)))
    (length-append (word (length fields)) fields ∙ omega (arith, word-length (length fields), of_fields)) in
    let padded : drop (fields_end Little bytes) bytes ≡ gap sent ++ body =
    behind (F ++ fields) (gap sent ++ body) bytes (fields_end Little bytes) (sym (append_assoc F fields (gap sent ++ body))) (long_head ∙ omega (arith, of_fields)) in
    let after : drop (body_start Little bytes) bytes ≡ body =
    behind ((F ++ fields) ++ gap sent) body bytes (body_start Little bytes)
    (sym (append_assoc F fields (gap sent ++ body)) ∙ sym (append_assoc (F ++ fields) (gap sent) body))
    (length-append (F ++ fields) (gap sent) ∙ omega (arith, long_head, long_gap, start)) in
    let types : body_types (fields_read sent) ≡ tys_of sent.body = listed_types (tys_of sent.body) in
    let rows = fields_fit sent can in
    let spells : AreSpelled Little 12 field_types (array_of sent) (word (length fields) ++ fields) =
    marshal_spelled Little (array_of sent) 12 (word (length fields) ++ fields) (((refl, rows.fit, refl), tt)) (array_spelled sent) (array_short sent rows can.fields_short) in
    let bodied : AreSpelled Little 0 (tys_of sent.body) sent.body body = marshal_spelled Little sent.body 0 body can.spelled refl can.arrays in
    let says : said_by sent ≡ parts_from Little bytes (fields_read sent) sent.body =
    ap (λ n. record (said_by sent) { size = n }) (ap length is)
    ∙ ap (λ n. record (said_by sent) { size = length bytes; serial = n }) (sym of_serial)
    ∙ ap (λ ts. record (said_by sent) { size = length bytes; serial = word_at Little 8 bytes; signature = ts }) (sym types) in
    subst (λ (b : List ℕ). IsMessage most b (said_by sent)) (sym is) (record {
      endian = Little;
      fields = fields_read sent;
      body = sent.body;
      begun = omega (arith, all);
      marked = refl;
      typed = can.header.typed;
      version = refl;
      numbered = λ none. can.header.serial.0 (sym of_serial ∙ none);
      whole = all ∙ omega (arith, start, of_body);
      within = subst (λ (b : List ℕ). length b ≤ most) is within;
      headed = record {
        array = array_of sent;
        spelled = subst (λ (x : List ℕ). AreSpelled Little 12 field_types (array_of sent) x) (sym array) spells;
        padded = ap (λ (x : List ℕ). are_zero (take (padding 8 (word_at Little 12 bytes)) x)) padded ∙ ap (λ n. are_zero (take (padding 8 n) (gap sent ++ body))) of_fields
            ∙ zero_front (padding 8 (length fields)) body;
        are = fields_again sent can;
      };
      needed = can.needed;
      listed = ap is_signature types ∙ can.listed;
      bodied = subst (λ (x : List ℕ). AreSpelled Little 0 (body_types (fields_read sent)) sent.body x) (sym after) (subst (λ ts. AreSpelled Little 0 ts sent.body body) (sym types) bodied);
      says = says;
    })
