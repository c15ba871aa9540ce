-- D-Bus Specification, "Authentication Protocol": lines, and the words on them.
use Rattle.std.specs.Prelude.{◌≡◌, ℕ, ◌+◌, ◌==◌, Bool, false, ◌&&◌, if◌then◌else◌, List, [], ◌∷◌, take, drop, slice_index, Option, None, Some, option_map, position}
use Rattle.std.specs.Option.{option_map_or}

-- carriage return and line feed, which end a line
abbrev pub line_end : List ℕ
line_end = 13 ∷ 10 ∷ []

-- the most bytes that a line may have, including CR LF at its end (docs/DECISIONS.md, "A line of the handshake has
-- 16,384 bytes at most")
abbrev pub line_limit : ℕ
line_limit = 16384

-- a space
abbrev pub is_space : ℕ → Bool
is_space c = c == 32

-- a line's word ends at its first space
abbrev pub word_of : List ℕ → List ℕ
word_of line = option_map_or (λ place. take place line) (position is_space line) line

-- a line's argument is what comes after that space; a line without a space has none
abbrev pub argument_of : List ℕ → Option (List ℕ)
argument_of line = option_map (λ place. drop (place + 1) line) (position is_space line)

-- the bytes begin with this one
abbrev pub is_led_by : ℕ → List ℕ → Bool
is_led_by c [] = false
is_led_by c (first ∷ bytes) = first == c

-- CR LF is at this position
abbrev pub EndsAt : List ℕ → ℕ → Type 0
EndsAt bytes place = (slice_index bytes place ≡ 13) × (slice_index bytes (place + 1) ≡ 10)

-- bytes cut at their first CR LF: the line before it, and the rest after it
pub record Cut : Type 0 where
  pub line : List ℕ
  pub rest : List ℕ

-- the same with one more byte in front
abbrev pub cut_led_by : ℕ → Cut → Cut
cut_led_by c cut = record { line = c ∷ cut.line; rest = cut.rest }

-- the first cut; None if the bytes contain no CR LF. A CR or a LF alone belongs to its line
abbrev pub first_cut : List ℕ → Option Cut
first_cut [] = None
first_cut (c ∷ bytes) =
    if c == 13 && is_led_by 10 bytes then Some (record { line = []; rest = drop 1 bytes }) else option_map (cut_led_by c) (first_cut bytes)
