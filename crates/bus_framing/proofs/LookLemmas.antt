-- What a complete message is heard as, by what its header and its body are read as.
use Rattle.std.proofs.Common.{◌≡◌, ◌≢◌, ℕ, ◌+◌, ◌<◌, ◌≤◌, Bool, true, false, cond, List, length, take, drop, Option, None, Some, Result, Ok, Err, refl, ap, sym, ◌∙◌, arith, inl, inr}
use Rattle.std.specs.Prelude.{nat_le, nat_lt, slice_index}
use Rattle.std.proofs.lemmas.Bool.{cases_lt, lt-ltb}
use Rattle.std.proofs.lemmas.List.{length-take-le, take-append-drop}
use Rattle.dbus_marshal.specs.Wire.{padding}
use Rattle.dbus_framing.specs.declared.head.Head.{Head}
use Rattle.dbus_framing.proofs.Heads.{heads, size_begun, word_more}
use Rattle.dbus_types.specs.declared.endian.Endian.{Endian}
use Rattle.dbus_framing.specs.declared.violation.Violation.{Violation}
use Rattle.dbus_framing.specs.declared.violation.Violation.TheVariants as violation
use Rattle.dbus_framing.specs.Headers.{Fields, has_needed}
use Rattle.dbus_framing.specs.Messages.{Parts, body_start, fields_at, fields_end, head_of, word_at}
use Rattle.bus_framing.specs.declared.heard.BodyFault.{BodyFault}
use Rattle.bus_framing.specs.declared.heard.BodyFault.TheVariants.{BadBody, TooLarge}
use Rattle.bus_framing.specs.Looks.{Said, whole, headed, Look, waits, breaks, passes, hears, bare_look, body_read, by_body, by_fields, headed_of, if_kept, long_look, look_at, look_by, most_bytes, most_read, short_look, whole_look}

-- what a message says without its body, and with it
abbrev bare_said : Endian → List ℕ → Fields → Said
bare_said endian bytes fields = headed (headed_of endian bytes fields (length bytes) BadBody)

abbrev whole_said : Endian → List ℕ → Fields → Said
whole_said endian bytes fields = by_body endian bytes fields (body_read endian bytes fields)

-- what it is heard as, by whether it has the fields that it must have
abbrev by_needed : List ℕ → Said → Bool → Look
by_needed bytes said needed = cond needed (if_kept (slice_index bytes 1) (length bytes) said) (breaks violation.MissingField)

pub no_header : (endian : Endian) (bytes : List ℕ) → None ≡ fields_at endian bytes → breaks violation.BadHeader ≡ whole_look endian bytes
unfolding whole_look
no_header endian bytes e = ap (by_fields bytes (length bytes) (whole_said endian bytes)) e

pub not_needed : (endian : Endian) (bytes : List ℕ) (fields : Fields) → Some fields ≡ fields_at endian bytes → has_needed (slice_index bytes 1) fields ≡ false
    → breaks violation.MissingField ≡ whole_look endian bytes
unfolding whole_look
not_needed endian bytes fields e needed =
    ap (by_needed bytes (whole_said endian bytes fields)) (sym needed) ∙ ap (by_fields bytes (length bytes) (whole_said endian bytes)) e

pub read_whole : (endian : Endian) (bytes : List ℕ) (fields : Fields) (parts : Parts) → Some fields ≡ fields_at endian bytes → has_needed (slice_index bytes 1) fields ≡ true
    → body_read endian bytes fields ≡ Ok parts → if_kept (slice_index bytes 1) (length bytes) (whole parts) ≡ whole_look endian bytes
unfolding whole_look
read_whole endian bytes fields parts e needed read =
    ap (by_needed bytes (whole parts)) (sym needed)
    ∙ ap (λ (body : Result Parts Violation). by_needed bytes (by_body endian bytes fields body) (has_needed (slice_index bytes 1) fields)) (sym read)
    ∙ ap (by_fields bytes (length bytes) (whole_said endian bytes)) e

pub read_bare : (endian : Endian) (bytes : List ℕ) (fields : Fields) (cause : Violation) → Some fields ≡ fields_at endian bytes
    → body_read endian bytes fields ≡ Err cause → bare_look endian bytes (length bytes) BadBody ≡ whole_look endian bytes
unfolding whole_look bare_look
read_bare endian bytes fields cause e read =
    ap (by_fields bytes (length bytes) (bare_said endian bytes)) (sym e)
    ∙ ap (λ (body : Result Parts Violation). by_needed bytes (by_body endian bytes fields body) (has_needed (slice_index bytes 1) fields)) (sym read)
    ∙ ap (by_fields bytes (length bytes) (whole_said endian bytes)) e

-- ---- a header whose body isn't read

-- what a message says without its body, by the fault
abbrev faulty_said : Endian → List ℕ → ℕ → BodyFault → Fields → Said
faulty_said endian bytes size fault fields = headed (headed_of endian bytes fields size fault)

-- what it is heard as, by whether it has the fields that it must have
abbrev sized_needed : List ℕ → ℕ → Said → Bool → Look
sized_needed bytes size said needed = cond needed (if_kept (slice_index bytes 1) size said) (breaks violation.MissingField)

pub bare_none : (endian : Endian) (bytes : List ℕ) (size : ℕ) (fault : BodyFault) → None ≡ fields_at endian bytes → breaks violation.BadHeader ≡ bare_look endian bytes size fault
unfolding bare_look
bare_none endian bytes size fault e = ap (by_fields bytes size (faulty_said endian bytes size fault)) e

pub bare_lacks : (endian : Endian) (bytes : List ℕ) (size : ℕ) (fault : BodyFault) (fields : Fields) → Some fields ≡ fields_at endian bytes
    → has_needed (slice_index bytes 1) fields ≡ false → breaks violation.MissingField ≡ bare_look endian bytes size fault
unfolding bare_look
bare_lacks endian bytes size fault fields e needed =
    ap (sized_needed bytes size (faulty_said endian bytes size fault fields)) (sym needed) ∙ ap (by_fields bytes size (faulty_said endian bytes size fault)) e

pub bare_kept : (endian : Endian) (bytes : List ℕ) (size : ℕ) (fault : BodyFault) (fields : Fields) → Some fields ≡ fields_at endian bytes
    → has_needed (slice_index bytes 1) fields ≡ true → if_kept (slice_index bytes 1) size (headed (headed_of endian bytes fields size fault)) ≡ bare_look endian bytes size fault
unfolding bare_look
bare_kept endian bytes size fault fields e needed =
    ap (sized_needed bytes size (faulty_said endian bytes size fault fields)) (sym needed) ∙ ap (by_fields bytes size (faulty_said endian bytes size fault)) e

-- the bytes up to the body have the same fields
pub front_body : (endian : Endian) (bytes : List ℕ) (body : ℕ) → 16 ≤ length bytes → body ≡ body_start endian bytes → body ≤ length bytes
    → body_start endian (take body bytes) ≤ length (take body bytes)
front_body endian bytes body begun is fits =
    let front = take body bytes in
    let long : length front ≡ body = length-take-le body bytes fits in
    let some : 16 ≤ body = omega (arith, is) in
    let word : word_at endian 12 front ≡ word_at endian 12 bytes =
    sym (word_more endian 12 front (drop body bytes) (omega (arith, long, some))) ∙ ap (word_at endian 12) (take-append-drop body bytes) in
    let start : body_start endian front ≡ body_start endian bytes = ap (λ (w : ℕ). 16 + w + padding 8 w) word in
    omega (arith, long, is, start)

-- and the same serial
pub front_numbered : (endian : Endian) (bytes : List ℕ) (body : ℕ) → body ≡ body_start endian bytes → body ≤ length bytes → word_at endian 8 bytes ≢ 0
    → word_at endian 8 (take body bytes) ≢ 0
front_numbered endian bytes body is fits numbered =
    let front = take body bytes in
    let long : length front ≡ body = length-take-le body bytes fits in
    let some : 16 ≤ body = omega (arith, is) in
    let word : word_at endian 8 front ≡ word_at endian 8 bytes =
    sym (word_more endian 8 front (drop body bytes) (omega (arith, long, some))) ∙ ap (word_at endian 8) (take-append-drop body bytes) in
    λ none. numbered (sym word ∙ none)

-- ---- how many bytes are passed over

passes_is : (one other : ℕ) → passes one ≡ passes other → one ≡ other
passes_is one other e = cc

kept_passes : (kept : Bool) (n : ℕ) (said : Said) (size : ℕ) → cond kept (hears n said) (passes n) ≡ passes size → n ≡ size
kept_passes true n said size e = absurd cc
kept_passes false n said size e = passes_is n size e

needed_passes : (bytes : List ℕ) (n : ℕ) (said : Said) (needed : Bool) (size : ℕ) → sized_needed bytes n said needed ≡ passes size → n ≡ size
needed_passes bytes n said true size e = kept_passes (nat_le (slice_index bytes 1) 4) n said size e
needed_passes bytes n said false size e = absurd cc

fields_passes : (bytes : List ℕ) (n : ℕ) (said : Fields → Said) (found : Option Fields) (size : ℕ) → by_fields bytes n said found ≡ passes size → n ≡ size
fields_passes bytes n said None size e = absurd cc
fields_passes bytes n said (Some fields) size e = needed_passes bytes n (said fields) (has_needed (slice_index bytes 1) fields) size e

whole_passes : (endian : Endian) (bytes : List ℕ) (size : ℕ) → whole_look endian bytes ≡ passes size → length bytes ≡ size
unfolding whole_look
whole_passes endian bytes size e = fields_passes bytes (length bytes) (whole_said endian bytes) (fields_at endian bytes) size e

bare_passes : (endian : Endian) (bytes : List ℕ) (n : ℕ) (fault : BodyFault) (size : ℕ) → bare_look endian bytes n fault ≡ passes size → n ≡ size
unfolding bare_look
bare_passes endian bytes n fault size e = fields_passes bytes n (faulty_said endian bytes n fault) (fields_at endian bytes) size e

few_passes : (few : Bool) (look : Look) (size : ℕ) → cond few waits look ≡ passes size → look ≡ passes size
few_passes true look size e = absurd cc
few_passes false look size e = e

long_passes : (head : Head) (bytes : List ℕ) (beyond few : Bool) (size : ℕ)
    → cond beyond (passes head.size) (cond few waits (bare_look head.endian (take (body_start head.endian bytes) bytes) head.size TooLarge)) ≡ passes size → head.size ≡ size
long_passes head bytes true few size e = passes_is head.size size e
long_passes head bytes false few size e =
    bare_passes head.endian (take (body_start head.endian bytes) bytes) head.size TooLarge size (few_passes few (bare_look head.endian (take (body_start head.endian bytes) bytes) head.size TooLarge) size e)

short_passes : (head : Head) (bytes : List ℕ) (size : ℕ) → short_look head bytes ≡ passes size → head.size ≡ size
short_passes head bytes size e = elim (cases_lt (length bytes) head.size) [
  | inl lt ↦ absurd (let f : waits ≡ passes size = sym (ap (λ (b : Bool). cond b waits (whole_look head.endian (take head.size bytes))) (lt-ltb _ _ lt)) ∙ e in cc)
  | inr le ↦
      sym (length-take-le head.size bytes le)
      ∙ whole_passes head.endian (take head.size bytes) size (few_passes (nat_lt (length bytes) head.size) (whole_look head.endian (take head.size bytes)) size e)
]

sized_passes : (head : Head) (bytes : List ℕ) (long : Bool) (size : ℕ) → cond long (long_look head bytes) (short_look head bytes) ≡ passes size → head.size ≡ size
sized_passes head bytes true size e = long_passes head bytes (nat_lt most_read (fields_end head.endian bytes)) (nat_lt (length bytes) (body_start head.endian bytes)) size e
sized_passes head bytes false size e = short_passes head bytes size e

headed_passes : (bytes : List ℕ) (found : Result Head Violation) (size : ℕ) → head_of most_bytes bytes ≡ found → look_by bytes found ≡ passes size → 0 < size
headed_passes bytes (Err cause) size known e = absurd cc
headed_passes bytes (Ok head) size known e =
    let is : head.size ≡ size = sized_passes head bytes (nat_lt most_read head.size) size e in
    omega (arith, is, (heads most_bytes bytes head known).size, size_begun head.endian bytes)

-- a message that is passed over has bytes, and some of them are there
pub record Begun (bytes : List ℕ) (size : ℕ) : Type 0 where
  pub some : 0 < size
  pub there : 0 < length bytes

pub passes_some : (bytes : List ℕ) (size : ℕ) → look_at bytes ≡ passes size → Begun bytes size
passes_some bytes size e = elim (cases_lt (length bytes) 16) [
  | inl lt ↦ absurd (let f : waits ≡ passes size = sym (ap (λ (b : Bool). cond b waits (look_by bytes (head_of most_bytes bytes))) (lt-ltb _ _ lt)) ∙ e in cc)
  | inr le ↦ record {
    some = headed_passes bytes (head_of most_bytes bytes) size refl (few_passes (nat_lt (length bytes) 16) (look_by bytes (head_of most_bytes bytes)) size e);
    there = omega (arith, le);
  }
]
