-- GNOME keyring file format: the hash of an attribute's value, by which the attribute is found while
-- the file is locked.
use Rattle.std.specs.Prelude.{ℕ, List, map, bit_xor}
use Rattle.std.specs.Int.{w32, rotate_left}
use Rattle.hex.specs.Hex.{encode_lower}
use Rattle.md5.specs.Md5.{md5}
use Rattle.kr_base.specs.declared.attributes.AttrValue.{AttrValue}
use Rattle.kr_base.specs.declared.attributes.AttrValue.TheVariants as value
use Rattle.kr_base.specs.declared.hashed.HashedPair.{HashedPair}
use Rattle.kr_base.specs.declared.hashed.HashedValue.{HashedValue}
use Rattle.kr_base.specs.declared.hashed.HashedValue.TheVariants as hash

-- the hash of a text: the hex digits of its MD5 (RFC 1321), in lower case
unfoldable pub text_hash : List ℕ → List ℕ
text_hash text = encode_lower (md5 text)

-- the hash of a number: a constant, the number, and the number with its halves swapped
unfoldable pub number_hash : ℕ → ℕ
number_hash number = bit_xor (bit_xor 0x18273645 number) (rotate_left w32 number 16)

-- the hash of a value
abbrev pub value_hash : AttrValue → HashedValue
value_hash (value.Text text) = hash.Text (text_hash text)
value_hash (value.Number number) = hash.Number (number_hash number)

-- the name of an attribute with the hash of its value
abbrev pub pair_hash : List ℕ × AttrValue → HashedPair
pair_hash pair = record { name = pair.0; value = value_hash pair.1 }

-- the attributes' hashes, in the attributes' order
abbrev pub hashes : List (List ℕ × AttrValue) → List HashedPair
hashes attributes = map pair_hash attributes
