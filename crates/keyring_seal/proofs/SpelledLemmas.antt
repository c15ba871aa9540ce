-- What a file says of its clear part: it can be written again, with its items in order of their numbers.
use Rattle.std.proofs.Common.{◌≡◌, ℕ, ◌+◌, ◌<◌, ◌≤◌, ◌%◌, ◌^◌, List, [], ◌∷◌, ◌++◌, Option, None, Some, IfSome, length, map, nat_eq, sym, ap, subst, ◌∙◌, append_assoc, arith}
use Rattle.std.specs.Cmp.{nat_eq_equiv}
use Rattle.std.specs.List.{AllByRecursion, IsDistinct}
use Rattle.std.specs.List.Sorted.{IsPermutation}
use Rattle.std.proofs.lemmas.List.{length-append}
use Rattle.std.proofs.lemmas.List.Sorted.{IsPermutation-map, length_permutation}
use Rattle.std.proofs.lemmas.Map.Keys.{IsDistinct-IsPermutation}
use Rattle.kr_base.specs.Attributes.{is_name}
use Rattle.kr_base.specs.declared.hashed.HashedPair.{HashedPair}
use Rattle.kr_base.specs.declared.hashed.HashedValue.{HashedValue}
use Rattle.kr_base.specs.declared.hashed.HashedValue.TheVariants as hash
use Rattle.keyring_text.specs.Fields.{number, SpellsString, some, none}
use Rattle.keyring_text.specs.Forms.{SpellsAll}
use Rattle.keyring_text.proofs.FieldLaws.{length-number}
use Rattle.keyring_file.specs.Canonical.{clear_item_text, clear_text, front_text, list_text}
use Rattle.keyring_file.specs.Clear.{ClearPart}
use Rattle.keyring_file.specs.ClearText.{ClearText, IsAreaLength, SpellsClearItem, SpellsClearItems, SpellsContent, SpellsHashed, SpellsPair, left_out, told}
use Rattle.keyring_file.specs.declared.clear.ClearItem.{ClearItem}
use Rattle.keyring_file.specs.Known.{IsKnownClear, IsKnownClearItem}
use Rattle.keyring_file.specs.Short.{IsShort, IsShortClear, IsShortClearItem, IsShortHashed, IsShortPair}
use Rattle.keyring_file.specs.Sound.{IsSoundClear, IsSoundClearItem, IsSoundHashed, IsSoundPair}
use Rattle.keyring_seal.specs.Order.{by_number}
use Rattle.keyring_seal.specs.Told.{HasSorted}
use Rattle.keyring_seal.proofs.ArrangeLemmas.{all_by_number}
use Rattle.keyring_seal.proofs.OrderLemmas.{by_number-permutation}

-- ---- a file that begins with the canonical text

abbrev before_length : ClearPart → List ℕ
before_length clear = front_text clear ++ list_text (clear_item_text clear.minor) clear.items

in_two : (clear : ClearPart) (n : ℕ) (hidden : List ℕ) → before_length clear ++ (number n ++ hidden) ≡ clear_text clear n ++ hidden
in_two clear n hidden = simp append_assoc

abbrev SpellsEach : Type 0
SpellsEach = (clear : ClearPart) (area : List ℕ) → IsSoundClear clear → IsShortClear clear → IsAreaLength (length area) → length area < 2 ^ 32 → ClearText (clear_text clear (length area) ++ area) clear area

-- the length of the rest of the file comes after the text, and before the rest
begins_so : SpellsEach → (clear : ClearPart) (file rest hidden : List ℕ) (n : ℕ) → IsSoundClear clear → IsShortClear clear → file ≡ before_length clear ++ rest → n + 4 ≡ length rest → 16 ≤ n → n % 16 ≡ 0 → n < 2 ^ 32 → rest ≡ number n ++ hidden → ClearText file clear hidden
begins_so law clear file rest hidden n sound short front left enough blocks few back =
    let sum : length (number n ++ hidden) ≡ length (number n) + length hidden = length-append (number n) hidden in
    let long : length hidden ≡ n = omega (arith, sum, length-number n, left, ap (λ t. length t) back) in
    let spelled = law clear hidden sound short (subst (λ m. IsAreaLength m) (sym long) (record { blocks = blocks; some = enough })) (omega (arith, long, few)) in
    let is : clear_text clear (length hidden) ++ hidden ≡ file = ap (λ m. clear_text clear m ++ hidden) long ∙ sym (in_two clear n hidden) ∙ ap (λ t. before_length clear ++ t) (sym back) ∙ sym front in
    subst (λ f. ClearText f clear hidden) is spelled

-- the same of what a comparison returned
pub found_so : {X : Type 0} (view : X → List ℕ) (found : Option X) → SpellsEach → (clear : ClearPart) (file rest : List ℕ) (n : ℕ) → IsSoundClear clear → IsShortClear clear → file ≡ before_length clear ++ rest → n + 4 ≡ length rest → 16 ≤ n → n % 16 ≡ 0 → n < 2 ^ 32
    → IfSome found (λ x. rest ≡ number n ++ view x) → IfSome found (λ x. ClearText file clear (view x))
found_so view None law clear file rest n sound short front left enough blocks few back = tt
found_so view (Some x) law clear file rest n sound short front left enough blocks few back = begins_so law clear file rest (view x) n sound short front left enough blocks few back

-- ---- what a text spells can be written

short_string : (s bytes : List ℕ) → SpellsString s bytes → IsShort s
short_string s bytes (some lt e) = lt
short_string s bytes (none e z) = rw e (omega arith)

short_content : (minor : ℕ) (content bytes : List ℕ) → SpellsContent minor content bytes → IsShort content
short_content minor content bytes (left_out zero plain e) = rw plain (omega arith)
short_content minor content bytes (told more text) = short_string content bytes text.string

fine_hashed : (v : HashedValue) (bytes : List ℕ) → SpellsHashed v bytes → IsSoundHashed v × IsShortHashed v
fine_hashed (hash.Text s) bytes is = (tt, short_string s is.back is.is_second)
fine_hashed (hash.Number n) bytes is = (is.is_second.fits, tt)

sound_pair : (p : HashedPair) (bytes : List ℕ) → SpellsPair p bytes → IsSoundPair p
sound_pair p bytes is = record { name = is.is_first.text; value = (fine_hashed p.value is.back is.is_second).0 }

short_pair : (p : HashedPair) (bytes : List ℕ) → SpellsPair p bytes → IsShortPair p
short_pair p bytes is = record { name = short_string p.name is.front is.is_first.string; value = (fine_hashed p.value is.back is.is_second).1 }

all_spelled : {A : Type 0} (P : A → List ℕ → Type 0) (Q : A → Type 0) → ((x : A) (bytes : List ℕ) → P x bytes → Q x) → (xs : List A) (bytes : List ℕ) → SpellsAll P xs bytes → AllByRecursion Q xs
all_spelled P Q each [] bytes is = tt
all_spelled P Q each (x ∷ xs) bytes is = (each x is.front is.is_first, all_spelled P Q each xs is.back is.is_second)

-- an item that can be written, if its types are known
record IsSpelled (item : ClearItem) : Type 0 where
  hashed : AllByRecursion IsSoundPair item.hashed
  distinct : IsDistinct is_name (map (λ p. p.name) item.hashed)
  short : IsShortClearItem item

spelled_item : (minor : ℕ) (item : ClearItem) (bytes : List ℕ) → SpellsClearItem minor item bytes → IsSpelled item
spelled_item minor item bytes is =
    let pairs = is.is_second.is_second.is_first in
    let content = is.is_second.is_second.is_second in
    let all = pairs.list.is_second in
    record {
      hashed = all_spelled SpellsPair IsSoundPair sound_pair item.hashed pairs.list.back all;
      distinct = pairs.distinct;
      short = record {
        hashed = record { few = pairs.list.is_first.fits; each = all_spelled SpellsPair IsShortPair short_pair item.hashed pairs.list.back all };
        content = short_content minor item.content is.is_second.is_second.back content;
      };
    }

sound_items : (items : List ClearItem) → AllByRecursion IsKnownClearItem items → AllByRecursion IsSpelled items → AllByRecursion IsSoundClearItem items
sound_items [] known is = tt
sound_items (x ∷ xs) known is = (record { known = known.0; hashed = is.0.hashed; distinct = is.0.distinct }, sound_items xs known.1 is.1)

short_items : (items : List ClearItem) → AllByRecursion IsSpelled items → AllByRecursion IsShortClearItem items
short_items [] is = tt
short_items (x ∷ xs) is = (is.0.short, short_items xs is.1)

abbrev number_of : ClearItem → ℕ
number_of item = item.id.0

module _ (file : List ℕ) (clear : ClearPart) (has : HasSorted file clear) (known : IsKnownClear clear) (items : AllByRecursion IsKnownClearItem clear.items) where
  abbrev part : ClearPart
  part = has.0

  abbrev spelled : ClearText file part has.1.0
  spelled = has.1.1

  listed : SpellsClearItems part.minor part.items spelled.text.is_first.is_second.is_second.is_second.back
  listed = spelled.text.is_first.is_second.is_second.is_second.is_second

  sorted : clear.items ≡ by_number number_of part.items
  sorted = ap (λ (c : ClearPart). c.items) has.2

  moved : IsPermutation part.items (by_number number_of part.items)
  moved = by_number-permutation number_of part.items listed.distinct

  each : AllByRecursion IsSpelled clear.items
  each = rw sorted (all_by_number number_of IsSpelled part.items (all_spelled (SpellsClearItem part.minor) IsSpelled (spelled_item part.minor) part.items listed.list.back listed.list.is_second))

  pub sound_clear : IsSoundClear clear
  sound_clear = record {
    known = known;
    iterations = rw has.2 spelled.text.is_first.is_second.is_second.is_first.is_second.is_second.is_second.is_second.is_second.few;
    items = sound_items clear.items items each;
    distinct = rw sorted (IsDistinct-IsPermutation nat_eq nat_eq_equiv.symm (map number_of part.items) (map number_of (by_number number_of part.items)) (IsPermutation-map number_of part.items (by_number number_of part.items) moved) listed.distinct);
  }

  pub short_clear : IsShortClear clear
  short_clear = record {
    name = rw has.2 (short_string part.name _ spelled.text.is_first.is_second.is_second.is_first.is_first.string);
    items = record { few = rw (sorted, length_permutation part.items (by_number number_of part.items) moved) listed.list.is_first.fits; each = short_items clear.items each };
  }
