-- The bytes of a text, and of bytes of any kind, wherever they are kept.
use Rattle.std.specs.Prelude.{ℕ, List, string_bytes}
use Rattle.kr_base.specs.declared.bytes.Held as bytes
use Rattle.kr_base.specs.declared.bytes.Held.TheVariants as held
use Rattle.kr_base.specs.declared.text.Held as text
use Rattle.kr_base.specs.declared.text.Held.TheVariants.{Short, Long}

-- the bytes of a text
abbrev pub held_text : text.Held → List ℕ
held_text (Short found) = found.bytes
held_text (Long found) = string_bytes found

-- bytes of any kind
abbrev pub held_bytes : bytes.Held → List ℕ
held_bytes (held.Short found) = found.items
held_bytes (held.Long found) = found.items
