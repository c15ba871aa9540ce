-- Decoding hex into a room for the bytes that are wanted.
use Rattle.std.proofs.Common.{◌≡◌, ℕ, ◌*◌, true, false, List, length, Result, Ok, Err, refl, sym, ap, ◌∙◌}
use Rattle.std.specs.Prelude.{MatchResult}
use Rattle.std.specs.Str.{bytes_eq}
use Rattle.std.specs.Result.{is_ok}
use Rattle.std.proofs.lemmas.Slice.Eq.{bytes_eq-Decides}
use Rattle.hex.specs.Hex.{decode_of, decode_sized}
use Rattle.hex.specs.declared.error.FromHexError.{FromHexError}
use Rattle.hex.proofs.HexLemmas.{decode_of-ok, decode_sized-twice}
use Rattle.dbus_auth.specs.Commands.{is_hex_of, is_ok_with}

-- a text that can't be decoded into as many bytes as are wanted decodes to other bytes, or to none
not_read : (text wanted : List ℕ) (fault : FromHexError) (d : Result (List ℕ) FromHexError)
    → decode_of text ≡ d → decode_sized text (length wanted) ≡ Err fault → is_ok_with wanted d ≡ false
not_read text wanted fault (Err e) is refused = refl
not_read text wanted fault (Ok bytes) is refused =
    elim (bytes_eq bytes wanted) as (λ b. bytes_eq bytes wanted ≡ b → b ≡ false) [
      | true ↦ λ same.
          let e : bytes ≡ wanted = (bytes_eq-Decides bytes wanted).0 same in
          let long : length text ≡ 2 * length wanted = (decode_of-ok text bytes is).2 ∙ ap (λ (l : List ℕ). 2 * length l) e in
          cc (sym is ∙ sym (decode_sized-twice text (length wanted) long) ∙ refused)
      | false ↦ λ other. refl
    ] refl

-- so it isn't the wanted bytes in hex
is_hex_of-Err : (text wanted : List ℕ) (fault : FromHexError) → decode_sized text (length wanted) ≡ Err fault → is_hex_of text wanted ≡ false
is_hex_of-Err text wanted fault refused = not_read text wanted fault (decode_of text) refl refused

not_read_into : (text wanted out : List ℕ) (r : Result Unit FromHexError) (d : Result (List ℕ) FromHexError)
    → decode_sized text (length wanted) ≡ d → MatchResult d (λ bytes. (r ≡ Ok tt) × (out ≡ bytes)) (λ e. r ≡ Err e)
    → is_ok r ≡ false → is_hex_of text wanted ≡ false
not_read_into text wanted out r (Ok bytes) is reads fails = cc (sym fails ∙ ap is_ok reads.0)
not_read_into text wanted out r (Err fault) is reads fails = is_hex_of-Err text wanted fault is

-- the same, if `decode_to_slice` fails in a room as long as the wanted bytes
pub is_hex_of-not_ok : (text wanted room out : List ℕ) (r : Result Unit FromHexError) → length room ≡ length wanted
    → MatchResult (decode_sized text (length room)) (λ bytes. (r ≡ Ok tt) × (out ≡ bytes)) (λ e. r ≡ Err e)
    → is_ok r ≡ false → is_hex_of text wanted ≡ false
is_hex_of-not_ok text wanted room out r long reads fails =
    not_read_into text wanted out r (decode_sized text (length wanted)) refl (rw long at reads) fails
