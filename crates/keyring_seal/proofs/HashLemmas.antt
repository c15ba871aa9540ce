-- The hashes of known attributes are sound, and their names are those of the attributes.
use Rattle.std.proofs.Common.{◌≡◌, ℕ, ◌*◌, ◌/◌, ◌%◌, ◌^◌, ◌<◌, List, [], ◌∷◌, map, refl, ap, arith}
use Rattle.std.specs.Cmp.Lexicographic.{slice_cmp}
use Rattle.std.specs.Int.{w32, rotate_left}
use Rattle.std.specs.List.{AllByRecursion, IsDistinct}
use Rattle.std.specs.Map.{keys_of}
use Rattle.std.specs.Ordering.{nat_cmp}
use Rattle.std.specs.Prelude.{bit_xor}
use Rattle.std.proofs.lemmas.Map.Keys.{IsDistinct-from_sorted}
use Rattle.std.proofs.lemmas.Nat.{xor_of_32, or_of_32}
use Rattle.kr_base.specs.Attributes.{is_name, IsInOrder}
use Rattle.kr_base.specs.declared.attributes.AttrValue.{AttrValue}
use Rattle.kr_base.specs.declared.attributes.AttrValue.TheVariants as value
use Rattle.kr_base.specs.declared.hashed.HashedPair.{HashedPair}
use Rattle.attribute_hash.specs.Hash.{hashes, number_hash, value_hash}
use Rattle.keyring_file.specs.Known.{IsKnownPair, IsKnownValue}
use Rattle.keyring_file.specs.Sound.{IsSoundHashed, IsSoundPair}

number_hash_small : (n : ℕ) → n < 2 ^ 32 → number_hash n < 2 ^ 32
unfolding number_hash
number_hash_small n lt =
    let front : bit_xor 0x18273645 n < 2 ^ 32 = xor_of_32 0x18273645 n (omega arith) lt in
    let high : (n * 2 ^ 16) % 2 ^ 32 < 2 ^ 32 = omega arith in
    let low : n / 2 ^ 16 < 2 ^ 32 = omega arith in
    xor_of_32 (bit_xor 0x18273645 n) (rotate_left w32 n 16) front (or_of_32 ((n * 2 ^ 16) % 2 ^ 32) (n / 2 ^ 16) high low)

known_hash : (v : AttrValue) → IsKnownValue v → IsSoundHashed (value_hash v)
known_hash (value.Text text) known = tt
known_hash (value.Number n) known = number_hash_small n known

pub known_hashes : (attributes : List (List ℕ × AttrValue)) → AllByRecursion IsKnownPair attributes → AllByRecursion IsSoundPair (hashes attributes)
known_hashes [] known = tt
known_hashes (p ∷ more) known = (record { name = known.0.name; value = known_hash p.1 known.0.value }, known_hashes more known.1)

pub names_hashed : (attributes : List (List ℕ × AttrValue)) → map (λ (p : HashedPair). p.name) (hashes attributes) ≡ keys_of attributes
names_hashed [] = refl
names_hashed (p ∷ more) = ap (λ (t : List (List ℕ)). p.0 ∷ t) (names_hashed more)

pub names_distinct : (attributes : List (List ℕ × AttrValue)) → IsInOrder attributes → IsDistinct is_name (keys_of attributes)
names_distinct attributes ordered = IsDistinct-from_sorted (slice_cmp nat_cmp) (keys_of attributes) ordered
