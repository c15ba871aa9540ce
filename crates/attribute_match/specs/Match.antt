-- Secret Service API, "Lookup Attributes": an item matches if it has each wanted attribute. GNOME keyring file format:
-- while a file is locked, its items are found by the hashes of their attributes.
use Rattle.std.specs.Prelude.{ℕ, ◌&&◌, Bool, false, cond, nat_lt, nat_eq, List, Option, Some, None, decimal, map}
use Rattle.std.specs.Cmp.Lexicographic.{pointwise}
use Rattle.std.specs.List.{list_any, list_all}
use Rattle.std.specs.Str.Parse.{digits_value}
use Rattle.kr_base.specs.Attributes.{is_name}
use Rattle.kr_base.specs.declared.attributes.AttrValue.{AttrValue}
use Rattle.kr_base.specs.declared.attributes.AttrValue.TheVariants as value
use Rattle.kr_base.specs.declared.hashed.HashedPair.{HashedPair}
use Rattle.kr_base.specs.declared.hashed.HashedValue.{HashedValue}
use Rattle.kr_base.specs.declared.hashed.HashedValue.TheVariants as hash
use Rattle.attribute_hash.specs.Hash.{number_hash, text_hash}

-- the text that the API shows for a value: a number is shown in decimal
abbrev pub text_of : AttrValue → List ℕ
text_of (value.Text text) = text
text_of (value.Number number) = decimal number

-- whether one of the attributes has the name and is shown as the text
abbrev pub has_pair : List ℕ → List ℕ → List (List ℕ × AttrValue) → Bool
has_pair name text attributes = list_any (λ pair. is_name name pair.0 && is_name text (text_of pair.1)) attributes

-- for each wanted attribute, the item has that name with that text
abbrev pub matches : List (List ℕ × AttrValue) → List (List ℕ × AttrValue) → Bool
matches wanted attributes = list_all (λ pair. has_pair pair.0 (text_of pair.1) attributes) wanted

-- the attributes as the API shows them: each name with the text of its value
abbrev pub texts_of : List (List ℕ × AttrValue) → List (List ℕ × List ℕ)
texts_of attributes = map (λ pair. (pair.0, text_of pair.1)) attributes

-- whether two pairs have the same name and the same text
abbrev pub is_same_pair : List ℕ × List ℕ → List ℕ × List ℕ → Bool
is_same_pair one other = is_name one.0 other.0 && is_name one.1 other.1

-- whether the API shows the same attributes: the two lists of names with texts are equal
abbrev pub is_equal : List (List ℕ × AttrValue) → List (List ℕ × AttrValue) → Bool
is_equal one other = pointwise is_same_pair (texts_of one) (texts_of other)

-- the 32-bit number that this text is in decimal, without leading zeros
abbrev pub number_of : List ℕ → Option ℕ
number_of text =
    cond (nat_lt (digits_value 10 text) 4294967296 && is_name (decimal (digits_value 10 text)) text)
    (Some (digits_value 10 text))
    None

-- there is a number, and its hash is this
abbrev pub is_number_hash : Option ℕ → ℕ → Bool
is_number_hash None found = false
is_number_hash (Some number) found = nat_eq (number_hash number) found

-- whether it is the hash of the text, or of the number that the text is in decimal
abbrev pub is_hash_of : List ℕ → HashedValue → Bool
is_hash_of text (hash.Text found) = is_name (text_hash text) found
is_hash_of text (hash.Number found) = is_number_hash (number_of text) found

-- whether one of the hashed attributes has the name and a hash of the text
abbrev pub has_hash : List ℕ → List ℕ → List HashedPair → Bool
has_hash name text hashed = list_any (λ pair. is_name name pair.name && is_hash_of text pair.value) hashed

-- for each wanted attribute, the locked item has that name with a hash of that text
abbrev pub hashed_matches : List (List ℕ × AttrValue) → List HashedPair → Bool
hashed_matches wanted hashed = list_all (λ pair. has_hash pair.0 (text_of pair.1) hashed) wanted
