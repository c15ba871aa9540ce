-- Worked rows, computed from the definitions: a label, the used stems, and the stem that a new collection gets.
use Rattle.std.proofs.Common.{◌≡◌, [], ◌∷◌, ◌++◌, codes, refl}
use Rattle.std.specs.Fmt.{digits}
use Rattle.stem_choice.specs.Choice.{chosen}

my_keys : chosen (codes "My Keys") [] ≡ codes "My_Keys"
unfolding chosen
my_keys = refl

my_keys_again : chosen (codes "My Keys") (codes "My_Keys" ∷ []) ≡ codes "My_Keys_2"
unfolding chosen digits
my_keys_again = refl

no_label : chosen [] [] ≡ codes "keyring"
unfolding chosen
no_label = refl

least_free : chosen (codes "login") (codes "login" ∷ codes "login_3" ∷ []) ≡ codes "login_2"
unfolding chosen digits
least_free = refl

number_in_label : chosen (codes "login_2") (codes "login_2" ∷ []) ≡ codes "login_2_2"
unfolding chosen digits
number_in_label = refl

-- the two bytes of U+00E9
two_bytes : chosen (195 ∷ 169 ∷ []) [] ≡ codes "__"
unfolding chosen
two_bytes = refl

-- the first byte of a character is the 64th byte, and the second is cut off
cut_within_a_character : chosen (codes "123456789012345678901234567890123456789012345678901234567890123" ++ 195 ∷ 169 ∷ []) []
    ≡ codes "123456789012345678901234567890123456789012345678901234567890123_"
unfolding chosen
cut_within_a_character = refl
