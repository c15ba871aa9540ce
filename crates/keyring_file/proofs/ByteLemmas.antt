-- The canonical area of known items consists of bytes.
use Rattle.std.proofs.Common.{◌≡◌, ℕ, zero, suc, ◌+◌, ◌/◌, ◌%◌, ◌<◌, Bool, true, false, cond, ◌&&◌, ltb, List, [], ◌∷◌, ◌++◌, length, replicate, refl, sym, ap, subst, ◌∙◌, arith, inl, inr}
use Rattle.std.specs.Int.{w32, w64, to_be_bytes, to_le_bytes}
use Rattle.std.specs.List.{flat_map, AllByRecursion}
use Rattle.std.specs.Str.{IsUtf8, encode_utf8_all}
use Rattle.std.proofs.lemmas.Bool.{and_parts, ltb-true}
use Rattle.std.proofs.lemmas.List.Concat.{flat_map-cons}
use lib.Utf8.{scalar, scalars, scalar_cases, encode, encodes}
use Rattle.md5.specs.Md5.{md5, digest_bytes}
use Rattle.kr_base.specs.Text.{IsText}
use Rattle.kr_base.specs.declared.attributes.AttrValue.{AttrValue}
use Rattle.kr_base.specs.declared.attributes.AttrValue.TheVariants as value
use Rattle.keyring_text.specs.Fields.{IsBytes, number, time, string, none_length}
use Rattle.keyring_file.specs.declared.area.Access.{Access}
use Rattle.keyring_file.specs.declared.area.FullItem.{FullItem}
use Rattle.keyring_file.specs.Canonical.{list_text, zeros, value_text, attribute_text, access_text, item_text, body_text, area_text, padding}
use Rattle.keyring_file.specs.Known.{IsKnownValue, IsKnownPair, IsKnownAccess, IsKnownItem}

none : IsBytes []
none i = omega arith

next : (x : ℕ) (xs : List ℕ) → x < 256 → IsBytes xs → IsBytes (x ∷ xs)
next x xs first rest zero = first
next x xs first rest (suc i) = rest i

both : (front back : List ℕ) → IsBytes front → IsBytes back → IsBytes (front ++ back)
both [] back p q = q
both (x ∷ front) back p q = next x (front ++ back) (p zero) (both front back (λ i. p (suc i)) q)

each : {A : Type 0} (text : A → List ℕ) (P : A → Type 0) → ((x : A) → P x → IsBytes (text x)) → (xs : List A) → AllByRecursion P xs → IsBytes (flat_map text xs)
each text P bytes [] all = none
each text P bytes (x ∷ xs) all = subst IsBytes (sym (flat_map-cons text x xs)) (both (text x) (flat_map text xs) (bytes x all.0) (each text P bytes xs all.1))

-- ---- numbers

of_number : (n : ℕ) → IsBytes (number n)
unfolding number
of_number n zero = omega arith
of_number n (suc zero) = omega arith
of_number n (suc (suc zero)) = omega arith
of_number n (suc (suc (suc zero))) = omega arith
of_number n (suc (suc (suc (suc i)))) = omega arith

of_time : (n : ℕ) → IsBytes (time n)
unfolding time
of_time n zero = omega arith
of_time n (suc zero) = omega arith
of_time n (suc (suc zero)) = omega arith
of_time n (suc (suc (suc zero))) = omega arith
of_time n (suc (suc (suc (suc zero)))) = omega arith
of_time n (suc (suc (suc (suc (suc zero))))) = omega arith
of_time n (suc (suc (suc (suc (suc (suc zero)))))) = omega arith
of_time n (suc (suc (suc (suc (suc (suc (suc zero))))))) = omega arith
of_time n (suc (suc (suc (suc (suc (suc (suc (suc i)))))))) = omega arith

of_zeros : (n : ℕ) → IsBytes (zeros n)
of_zeros zero = none
of_zeros (suc n) = next 0 (zeros n) (omega arith) (of_zeros n)

of_word : (n : ℕ) → IsBytes (to_le_bytes w32 n)
of_word n zero = omega arith
of_word n (suc zero) = omega arith
of_word n (suc (suc zero)) = omega arith
of_word n (suc (suc (suc zero))) = omega arith
of_word n (suc (suc (suc (suc i)))) = omega arith

of_digest : (h : List ℕ) (n : ℕ) → IsBytes (digest_bytes h n)
unfolding digest_bytes
of_digest h zero = none
of_digest h (suc n) = both (digest_bytes h n) _ (of_digest h n) (of_word _)

of_md5 : (text : List ℕ) → IsBytes (md5 text)
unfolding md5
of_md5 text = of_digest _ 4

-- ---- texts

of_lengths : (c : ℕ) → c < 1114112 → (a b d : Bool) → ltb c 128 ≡ a → ltb c 2048 ≡ b → ltb c 65536 ≡ d
    → IsBytes (cond a (c ∷ []) (cond b ((192 + c / 64) ∷ (128 + c % 64) ∷ []) (cond d ((224 + c / 4096) ∷ (128 + c / 64 % 64) ∷ (128 + c % 64) ∷ []) ((240 + c / 262144) ∷ (128 + c / 4096 % 64) ∷ (128 + c / 64 % 64) ∷ (128 + c % 64) ∷ []))))
of_lengths c lt true b d p q r = next c [] (omega (arith, ltb-true c 128 p)) none
of_lengths c lt false true d p q r = next (192 + c / 64) ((128 + c % 64) ∷ []) (omega (arith, ltb-true c 2048 q)) (next (128 + c % 64) [] (omega arith) none)
of_lengths c lt false false true p q r =
    next (224 + c / 4096) ((128 + c / 64 % 64) ∷ (128 + c % 64) ∷ []) (omega (arith, ltb-true c 65536 r)) (next (128 + c / 64 % 64) ((128 + c % 64) ∷ []) (omega arith) (next (128 + c % 64) [] (omega arith) none))
of_lengths c lt false false false p q r =
    next (240 + c / 262144) ((128 + c / 4096 % 64) ∷ (128 + c / 64 % 64) ∷ (128 + c % 64) ∷ []) (omega (arith, lt))
    (next (128 + c / 4096 % 64) ((128 + c / 64 % 64) ∷ (128 + c % 64) ∷ []) (omega arith) (next (128 + c / 64 % 64) ((128 + c % 64) ∷ []) (omega arith) (next (128 + c % 64) [] (omega arith) none)))

below : (c : ℕ) → scalar c ≡ true → c < 1114112
below c e = elim (scalar_cases c e) [ inl low ↦ omega (arith, low) | inr high ↦ high.1 ]

of_character : (c : ℕ) → scalar c ≡ true → IsBytes (encode c)
unfolding encode
of_character c e = of_lengths c (below c e) (ltb c 128) (ltb c 2048) (ltb c 65536) refl refl refl

of_characters : (cs : List ℕ) → scalars cs ≡ true → IsBytes (encodes cs)
of_characters [] e = none
of_characters (c ∷ cs) e = let p = and_parts (scalar c) (scalars cs) e in both (encode c) (encodes cs) (of_character c p.0) (of_characters cs p.1)

of_text : (text : List ℕ) → IsText text → IsBytes text
of_text text is = subst IsBytes is.utf8.1.1 (of_characters is.utf8.0 is.utf8.1.0)

of_string : (s : List ℕ) → IsBytes s → IsBytes (string s)
of_string s is = both (number (length s)) s (of_number (length s)) is

of_list : {A : Type 0} (text : A → List ℕ) (P : A → Type 0) → ((x : A) → P x → IsBytes (text x)) → (xs : List A) → AllByRecursion P xs → IsBytes (list_text text xs)
of_list text P bytes xs all = both (number (length xs)) (flat_map text xs) (of_number (length xs)) (each text P bytes xs all)

-- ---- items

of_value : (v : AttrValue) → IsKnownValue v → IsBytes (value_text v)
of_value (value.Text t) known = both (number 0) (string t) (of_number 0) (of_string t (of_text t known))
of_value (value.Number n) known = both (number 1) (number n) (of_number 1) (of_number n)

of_pair : (pair : List ℕ × AttrValue) → IsKnownPair pair → IsBytes (attribute_text pair)
of_pair pair known = both (string pair.0) (value_text pair.1) (of_string pair.0 (of_text pair.0 known.name)) (of_value pair.1 known.value)

of_access : (access : Access) → IsKnownAccess access → IsBytes (access_text access)
of_access access known =
    both (number access.allowed) _ (of_number access.allowed)
    (both (string access.display) _ (of_string access.display (of_text access.display known.display)) (both (string access.path) _ (of_string access.path (of_text access.path known.path)) (both (number none_length) (number 0) (of_number none_length) (of_number 0))))

of_item : (item : FullItem) → IsKnownItem item → IsBytes (item_text item)
of_item item known =
    both (string item.label) _ (of_string item.label (of_text item.label known.label))
    (both (string item.value) _ (of_string item.value known.value)
    (both (time item.created) _ (of_time item.created)
    (both (time item.modified) _ (of_time item.modified)
    (both (number none_length) _ (of_number none_length)
    (both (zeros 16) _ (of_zeros 16)
    (both (list_text attribute_text item.attributes) (list_text access_text item.access) (of_list attribute_text IsKnownPair of_pair item.attributes known.attributes) (of_list access_text IsKnownAccess of_access item.access known.access)))))))

-- the canonical area
pub area-bytes : (items : List FullItem) → AllByRecursion IsKnownItem items → IsBytes (area_text items)
area-bytes items known =
    both (md5 (body_text items)) (body_text items) (of_md5 (body_text items)) (both (flat_map item_text items) (zeros (padding (length (flat_map item_text items)))) (each item_text IsKnownItem of_item items known) (of_zeros _))
