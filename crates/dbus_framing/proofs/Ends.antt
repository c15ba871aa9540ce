-- No bytes show that the input ended.
use Rattle.std.proofs.Common.{◌≡◌, ℕ, ◌==◌, Bool, true, false, if◌then◌else◌, List, take, drop, Option, Some, None, Result, Ok, Err}
use Rattle.std.specs.Prelude.{nat_lt, not, slice_index}
use Rattle.std.specs.Result.{result_ok}
use Rattle.dbus_types.specs.declared.endian.Endian.{Endian}
use Rattle.dbus_types.specs.Values.{Vals}
use Rattle.dbus_marshal.specs.Unmarshal.{values_at}
use Rattle.dbus_framing.specs.declared.violation.Violation.{Violation}
use Rattle.dbus_framing.specs.declared.violation.Violation.TheVariants as violation
use Rattle.dbus_framing.specs.declared.head.Head.{Head}
use Rattle.dbus_framing.specs.Headers.{Fields, has_needed}
use Rattle.dbus_framing.specs.Messages.{Parts, endian_of, word_at, size_at, body_start, body_types, fields_at, marked_head, bodied_message, fielded_message}
use Rattle.dbus_framing.specs.Streams.{Breaks, early, late}

abbrev no_head : Violation → Result Head Violation
no_head cause = Err cause

abbrev no_parts : Violation → Result Parts Violation
no_parts cause = Err cause

head_ends : (most : ℕ) (bytes : List ℕ) (marked : Option Endian) → marked_head most bytes marked ≡ no_head violation.EndInside → ⊥
head_ends most bytes None e = cc
head_ends most bytes (Some endian) e =
    in_rows (slice_index bytes 1 == 0) (not (slice_index bytes 3 == 1)) (word_at endian 8 bytes == 0) (nat_lt most (size_at endian bytes)) (record { endian = endian; size = size_at endian bytes }) e
  where
    in_rows : (a b c d : Bool) (head : Head)
        → (if a then Err violation.InvalidType else (if b then Err violation.Version else (if c then Err violation.ZeroSerial else (if d then Err violation.TooLarge else Ok head)))) ≡ no_head violation.EndInside → ⊥
    in_rows true b c d head e = cc
    in_rows false true c d head e = cc
    in_rows false false true d head e = cc
    in_rows false false false true head e = cc
    in_rows false false false false head e = cc

body_ends : (endian : Endian) (bytes : List ℕ) (fields : Fields) (body : Option Vals) → bodied_message endian bytes fields body ≡ no_parts violation.EndInside → ⊥
body_ends endian bytes fields None e = cc
body_ends endian bytes fields (Some body) e = cc

fields_end : (endian : Endian) (bytes : List ℕ) (fields : Option Fields) → fielded_message endian bytes fields ≡ no_parts violation.EndInside → ⊥
fields_end endian bytes None e = cc
fields_end endian bytes (Some fields) e =
    needed (has_needed (slice_index bytes 1) fields) (bodied_message endian bytes fields (result_ok (values_at endian (body_types fields) (record { place = 0; left = drop (body_start endian bytes) bytes }))))
    (body_ends endian bytes fields (result_ok (values_at endian (body_types fields) (record { place = 0; left = drop (body_start endian bytes) bytes })))) e
  where
    needed : (has : Bool) (read : Result Parts Violation) → (read ≡ no_parts violation.EndInside → ⊥) → (if has then read else Err violation.MissingField) ≡ no_parts violation.EndInside → ⊥
    needed true read none e = none e
    needed false read none e = cc

pub never_ends : (most : ℕ) (bytes : List ℕ) → Breaks most bytes violation.EndInside → ⊥
never_ends most bytes (early begun broken) = head_ends most bytes (endian_of (slice_index bytes 0)) broken
never_ends most bytes (late head begun known fits read) = fields_end head.endian (take head.size bytes) (fields_at head.endian (take head.size bytes)) read
