-- An entry and its parts.
use Rattle.std.proofs.Common.{◌≡◌, ℕ, ◌&&◌, not, Bool, true, false, List, [], ◌∷◌, Option, Some, None, refl, sym, ◌∙◌, ap, ⊎_elim, cond, ◌==◌, ◌++◌, length, suc, append_assoc, arith}
use Rattle.std.specs.Char.{is_ascii_digit}
use Rattle.std.proofs.lemmas.Bool.Decides.{nat_tests}
use Rattle.std.proofs.lemmas.List.{append-nil}
use Rattle.std.specs.Prelude.{option_to_list}
use Rattle.std.specs.List.{list_all}
use Rattle.std.specs.Str.{bytes_eq}
use Rattle.std.proofs.lemmas.Bool.{cases_Bool}
use Rattle.bus_address.specs.Pieces.{IsCut, has_separator, pieces}
use Rattle.bus_address.specs.Values.{is_value, unescaped}
use Rattle.bus_address.specs.Pairs.{is_pair, key_of, value_of, has_key, are_distinct, are_pairs, value_in}
use Rattle.bus_address.specs.Entries.{is_entry, pairs_in, pairs_of, place_among, place_of, unix, path, abstract_name}
use Rattle.bus_address.specs.declared.entry.Place.{Place}
use Rattle.bus_address.specs.declared.entry.Place.TheVariants.{Path, Abstract}
use Rattle.bus_address.specs.Addresses.{is_part, is_address, places_among}
use Rattle.bus_address.specs.BusNames.{is_name_byte, is_element}
use Rattle.bus_address.proofs.PieceLemmas.{IsApart, pieces_cut, before_cut, after_cut, has_none}

both : (a b : Bool) → (a && b) ≡ true → (a ≡ true) × (b ≡ true)
both true b is = (refl, is)
both false b is = absurd cc

same_some : {X : Type 0} (one other : X) → Some one ≡ Some other → one ≡ other
same_some one other same = cc

-- the values of pairs are values
all_values : (key : List ℕ) (pairs : List (List ℕ)) (value : List ℕ) → list_all is_pair pairs ≡ true → value_in key pairs ≡ Some value → is_value value ≡ true
all_values key [] value all found = absurd cc
all_values key (pair ∷ pairs) value all found =
    let parts = both (is_pair pair) (list_all is_pair pairs) all in
    ⊎_elim
    (λ here. (let is : Some (value_of pair) ≡ Some value = rw here at found in
    ap is_value (sym (same_some (value_of pair) value is)) ∙ (both (has_separator 61 pair) (is_value (value_of pair)) parts.0).1))
    (λ off. (let more : value_in key pairs ≡ Some value = rw off at found in all_values key pairs value parts.1 more))
    (cases_Bool (bytes_eq (key_of pair) key))

pub value_is : (key : List ℕ) (pairs : List (List ℕ)) (value : List ℕ) → are_pairs pairs ≡ true → value_in key pairs ≡ Some value → is_value value ≡ true
value_is key pairs value are found = all_values key pairs value (both (list_all is_pair pairs) (are_distinct pairs) are).0 found

-- ---- an entry that is cut at its first `:`

pub pairs_cut : (entry transport pairs : List ℕ) → IsCut 58 entry transport pairs → is_entry entry ≡ true → are_pairs (pairs_in pairs) ≡ true
pairs_cut entry transport pairs cut is =
    ap (λ text. are_pairs (pairs_in text)) (sym (after_cut 58 entry transport pairs cut)) ∙ (both (has_separator 58 entry) (are_pairs (pairs_of entry)) is).1

place_cut : (entry transport pairs : List ℕ) → IsCut 58 entry transport pairs
    → place_of entry ≡ cond (bytes_eq transport unix) (place_among (value_in path (pairs_in pairs)) (value_in abstract_name (pairs_in pairs))) None
place_cut entry transport pairs cut =
    rw (before_cut 58 entry transport pairs cut, after_cut 58 entry transport pairs cut) refl

pub unix_cut : (entry transport pairs : List ℕ) → IsCut 58 entry transport pairs → bytes_eq transport unix ≡ true
    → place_among (value_in path (pairs_in pairs)) (value_in abstract_name (pairs_in pairs)) ≡ place_of entry
unix_cut entry transport pairs cut is = sym (place_cut entry transport pairs cut ∙ rw is refl)

pub other_cut : (entry transport pairs : List ℕ) → IsCut 58 entry transport pairs → bytes_eq transport unix ≡ false → None ≡ place_of entry
other_cut entry transport pairs cut off = sym (place_cut entry transport pairs cut ∙ rw off refl)

pub no_cut : (entry : List ℕ) → IsApart 58 entry → is_entry entry ≡ true → None ≡ place_of entry
no_cut entry apart is =
    let has : has_separator 58 entry ≡ true = (both (has_separator 58 entry) (are_pairs (pairs_of entry)) is).0 in
    let wrong : true ≡ false = sym has ∙ has_none 58 entry apart in
    absurd cc

-- the pairs in a text, which may be empty
pub listed : (pairs : List ℕ) → (length pairs == 0) ≡ true → true ≡ are_pairs (pairs_in pairs)
listed [] is = refl
listed (byte ∷ pairs) is = absurd (let wrong : suc (length pairs) ≡ 0 = grind (arith, nat_tests) in omega (arith, wrong))

pub is_listed : (pairs : List ℕ) → (length pairs == 0) ≡ false → are_pairs (pieces 44 pairs) ≡ are_pairs (pairs_in pairs)
is_listed [] off = absurd (let wrong : true ≡ false = off in cc)
is_listed (byte ∷ pairs) off = refl

pub nothing_in : (key pairs : List ℕ) → (length pairs == 0) ≡ true → value_in key (pairs_in pairs) ≡ None
nothing_in key [] is = refl
nothing_in key (byte ∷ pairs) is = absurd (let wrong : suc (length pairs) ≡ 0 = grind (arith, nat_tests) in omega (arith, wrong))

pub value_listed : (key pairs : List ℕ) (value : Option (List ℕ)) → (length pairs == 0) ≡ false → value_in key (pieces 44 pairs) ≡ value → value_in key (pairs_in pairs) ≡ value
value_listed key [] value off found = absurd (let wrong : true ≡ false = off in cc)
value_listed key (byte ∷ pairs) value off found = found

-- ---- the place of two values

pub among_path : (first second : Option (List ℕ)) (value bytes : List ℕ) → first ≡ Some value → second ≡ None → bytes ≡ unescaped value → Some (Path bytes) ≡ place_among first second
among_path first second value bytes one other is = rw (one, other) (ap (λ all. Some (Path all)) is)

pub among_name : (first second : Option (List ℕ)) (value bytes : List ℕ) → first ≡ None → second ≡ Some value → bytes ≡ unescaped value → Some (Abstract bytes) ≡ place_among first second
among_name first second value bytes one other is = rw (one, other) (ap (λ all. Some (Abstract all)) is)

pub among_neither : (first second : Option (List ℕ)) → first ≡ None → second ≡ None → None ≡ place_among first second
among_neither first second one other = rw (one, other) refl

pub among_both : (first second : Option (List ℕ)) (value name : List ℕ) → first ≡ Some value → second ≡ Some name → None ≡ place_among first second
among_both first second value name one other = rw (one, other) refl

-- ---- the first piece

pub key_here : (key rest pair more : List ℕ) → IsCut 44 rest pair more → true ≡ bytes_eq (key_of pair) key → true ≡ has_key key (pieces 44 rest)
key_here key rest pair more cut is = rw (pieces_cut 44 rest pair more cut) (rw (sym is) refl)

pub value_here : (key rest pair more : List ℕ) → IsCut 44 rest pair more → true ≡ bytes_eq (key_of pair) key → value_in key (pieces 44 rest) ≡ Some (value_of pair)
value_here key rest pair more cut is = rw (pieces_cut 44 rest pair more cut) (rw (sym is) refl)

pub fails_here : (test : List ℕ → Bool) (separator : ℕ) (rest piece more : List ℕ) → IsCut separator rest piece more → test piece ≡ false → false ≡ list_all test (pieces separator rest)
fails_here test separator rest piece more cut off = rw (pieces_cut separator rest piece more cut) (rw off refl)

pub no_pair_here : (rest pair more : List ℕ) → IsCut 44 rest pair more → is_pair pair ≡ false → false ≡ are_pairs (pieces 44 rest)
no_pair_here rest pair more cut off = rw (pieces_cut 44 rest pair more cut) (rw off refl)

and_false : (a b : Bool) → b ≡ false → (a && b) ≡ false
and_false true b off = off
and_false false b off = refl

pub twice_here : (rest pair more : List ℕ) → IsCut 44 rest pair more → has_key (key_of pair) (pieces 44 more) ≡ true → false ≡ are_pairs (pieces 44 rest)
twice_here rest pair more cut there =
    let off : are_distinct (pair ∷ pieces 44 more) ≡ false = rw there refl in
    sym (ap are_pairs (pieces_cut 44 rest pair more cut) ∙ and_false (list_all is_pair (pair ∷ pieces 44 more)) (are_distinct (pair ∷ pieces 44 more)) off)

-- ---- the entries of an address

pub part_first : (rest entry more : List ℕ) → IsCut 59 rest entry more → list_all is_part (pieces 59 rest) ≡ true → (is_part entry ≡ true) × (list_all is_part (pieces 59 more) ≡ true)
part_first rest entry more cut all =
    both (is_part entry) (list_all is_part (pieces 59 more)) (ap (list_all is_part) (sym (pieces_cut 59 rest entry more cut)) ∙ all)

pub places_more : (rest entry more : List ℕ) (before_it after_it total : List Place) → IsCut 59 rest entry more → after_it ≡ before_it ++ option_to_list (place_of entry)
    → before_it ++ places_among (pieces 59 rest) ≡ total → after_it ++ places_among (pieces 59 more) ≡ total
places_more rest entry more before_it after_it total cut added so_far =
    ap (λ places. places ++ places_among (pieces 59 more)) added
    ∙ append_assoc before_it (option_to_list (place_of entry)) (places_among (pieces 59 more))
    ∙ ap (λ entries. before_it ++ places_among entries) (sym (pieces_cut 59 rest entry more cut))
    ∙ so_far

pub parts_of : (text : List ℕ) → is_address text ≡ true → list_all is_part (pieces 59 text) ≡ true
parts_of text is = (both (not (length text == 0)) (list_all is_part (pieces 59 text)) is).1

pub part_entry : (entry : List ℕ) → (length entry == 0) ≡ false → is_part entry ≡ true → is_entry entry ≡ true
part_entry entry off is = rw off at is

pub added_nothing : (entry : List ℕ) (places : List Place) → (length entry == 0) ≡ true → places ≡ places ++ option_to_list (place_of entry)
unfolding unix
added_nothing [] places is = sym (append-nil places)
added_nothing (byte ∷ entry) places is = absurd (let wrong : suc (length entry) ≡ 0 = grind (arith, nat_tests) in omega (arith, wrong))

pub added_some : (entry : List ℕ) (places new : List Place) (place : Place) → Some place ≡ place_of entry → new ≡ places ++ place ∷ [] → new ≡ places ++ option_to_list (place_of entry)
added_some entry places new place is added = added ∙ ap (λ one. places ++ option_to_list one) is

pub added_none : (entry : List ℕ) (places : List Place) → None ≡ place_of entry → places ≡ places ++ option_to_list (place_of entry)
added_none entry places is = sym (append-nil places) ∙ ap (λ one. places ++ option_to_list one) is

-- ---- an element of a bus name

pub element_is : (text : List ℕ) (first : ℕ) (rest : List ℕ) (bytes : Bool) → text ≡ first ∷ rest → bytes ≡ list_all is_name_byte text → is_ascii_digit first ≡ false → bytes ≡ is_element text
element_is text first rest bytes is all off =
    all ∙ ap (list_all is_name_byte) is ∙ sym (ap is_element is ∙ rw off refl)
