-- The key of a hashed attribute: 64 bits of its name and of the hash of its value. It narrows a search down to few items, whose hashes
-- are then compared.
use Rattle.std.specs.Prelude.{◌≡◌, ℕ, List, Option, Some}
use Rattle.kr_base.specs.declared.hashed.HashedValue.{HashedValue}
use Rattle.kr_base.specs.declared.hashed.HashedValue.TheVariants as hash
use Rattle.attribute_hash.specs.Hash.{number_hash}
use Rattle.attribute_match.specs.Keys.{mixed, mixed_in}
use Rattle.attribute_match.specs.Match.{number_of}

-- the key of a name and the hash of a text
abbrev pub text_key_of : List ℕ → List ℕ → ℕ
text_key_of name found = mixed (mixed 1 name) found

-- the key of a name and the hash of a number
abbrev pub number_key_of : List ℕ → ℕ → ℕ
number_key_of name found = mixed_in (mixed 2 name) found

-- the key of a name and a hash
abbrev pub key_of : List ℕ → HashedValue → ℕ
key_of name (hash.Text found) = text_key_of name found
key_of name (hash.Number found) = number_key_of name found

-- if the text is a number in decimal, this is the key of the name and the number's hash
abbrev pub IsNumberKey : List ℕ → List ℕ → Option ℕ → Type 0
IsNumberKey name text key = (number : ℕ) → number_of text ≡ Some number → key ≡ Some (number_key_of name (number_hash number))
