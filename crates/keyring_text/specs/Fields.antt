-- GNOME keyring file format: numbers, times, strings and texts, as the bytes that spell them.
use Rattle.std.specs.Prelude.{◌≡◌, ℕ, ◌<◌, ◌^◌, List, [], ◌++◌, length, slice_index}
use Rattle.std.specs.Int.{w32, w64, to_be_bytes, from_be_bytes}
use Rattle.kr_base.specs.Text.{IsText}

-- each element is a byte
abbrev pub IsBytes : List ℕ → Type 0
IsBytes bytes = (i : ℕ) → slice_index bytes i < 256

-- a number: four bytes, the highest first
unfoldable pub number : ℕ → List ℕ
number n = to_be_bytes w32 n

-- the number that four bytes spell
unfoldable pub number_of : List ℕ → ℕ
number_of bytes = from_be_bytes w32 bytes

-- a time: a high and a low number, so eight bytes, the highest first
unfoldable pub time : ℕ → List ℕ
time seconds = to_be_bytes w64 seconds

-- the time that eight bytes spell
unfoldable pub time_of : List ℕ → ℕ
time_of bytes = from_be_bytes w64 bytes

-- a string: its length and its bytes
abbrev pub string : List ℕ → List ℕ
string bytes = number (length bytes) ++ bytes

-- the length that means no string
abbrev pub none_length : ℕ
none_length = 0xffffffff

-- bytes spell a number
pub record SpellsNumber (n : ℕ) (bytes : List ℕ) : Type 0 where
  pub fits : n < 2 ^ 32
  pub is : bytes ≡ number n

-- bytes spell a time
pub record SpellsTime (seconds : ℕ) (bytes : List ℕ) : Type 0 where
  pub fits : seconds < 2 ^ 64
  pub is : bytes ≡ time seconds

-- bytes spell a string; an absent string is read as the empty one
pub data SpellsString (s bytes : List ℕ) : Type 0 where
  some : length s < none_length → bytes ≡ string s → SpellsString s bytes
  none : s ≡ [] → bytes ≡ number none_length → SpellsString s bytes

-- bytes spell a string that is a text: UTF-8 without a zero byte
pub record SpellsText (t bytes : List ℕ) : Type 0 where
  pub text : IsText t
  pub string : SpellsString t bytes

-- n bytes, whatever they are
pub record IsSpan (n : ℕ) (bytes : List ℕ) : Type 0 where
  pub len : length bytes ≡ n
