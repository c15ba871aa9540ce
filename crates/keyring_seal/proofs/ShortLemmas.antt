-- What fits a file is short enough to be written.
use Rattle.std.proofs.Common.{◌≡◌, ℕ, ◌≤◌, Bool, true, false, cond, nat_eq, List, [], ◌∷◌, ◌++◌, length, refl, ap, arith}
use Rattle.std.specs.List.{flat_map, AllByRecursion}
use Rattle.std.proofs.lemmas.Bool.Decides.{nat_tests}
use Rattle.std.proofs.lemmas.List.{length-append}
use Rattle.kr_base.specs.declared.attributes.AttrValue.{AttrValue}
use Rattle.kr_base.specs.declared.attributes.AttrValue.TheVariants as value
use Rattle.kr_base.specs.declared.hashed.HashedPair.{HashedPair}
use Rattle.kr_base.specs.declared.hashed.HashedValue.{HashedValue}
use Rattle.kr_base.specs.declared.hashed.HashedValue.TheVariants as hash
use Rattle.keyring_text.specs.Fields.{number, time, string, none_length}
use Rattle.keyring_file.specs.declared.area.Access.{Access}
use Rattle.keyring_file.specs.declared.area.FullItem.{FullItem}
use Rattle.keyring_file.specs.declared.clear.ClearItem.{ClearItem}
use Rattle.keyring_file.specs.Canonical.{access_text, area_text, attribute_text, body_text, clear_item_text, clear_text, content_text, front_text, hashed_text, item_text, list_text, padding, pair_text, value_text, zeros}
use Rattle.keyring_file.specs.Clear.{ClearPart, IsPlain, plain_content}
use Rattle.keyring_file.specs.ClearText.{magic, version}
use Rattle.keyring_file.specs.Short.{IsShort, IsShortAccess, IsShortAttribute, IsShortClear, IsShortClearItem, IsShortHashed, IsShortItem, IsShortList, IsShortPair, IsShortValue}
use Rattle.md5.specs.Md5.{md5}
use Rattle.keyring_seal.specs.Whole.{most_bytes}
use Rattle.keyring_seal.proofs.RoomLemmas.{length_number}

front_small : (a b : List ℕ) → length (a ++ b) ≤ most_bytes → length a ≤ most_bytes
front_small a b h = omega (arith, length-append a b, h)

back_small : (a b : List ℕ) → length (a ++ b) ≤ most_bytes → length b ≤ most_bytes
back_small a b h = omega (arith, length-append a b, h)

-- a string has at least its length, and so has what begins with a number
some_behind : (n : ℕ) (rest : List ℕ) → 1 ≤ length (number n ++ rest)
some_behind n rest = omega (arith, length-append (number n) rest, length_number n)

some_string : (s rest : List ℕ) → 1 ≤ length (string s ++ rest)
some_string s rest = let whole = length-append (string s) rest in let front = some_behind (length s) s in omega (arith, whole, front)

short_string : (s : List ℕ) → length (string s) ≤ most_bytes → IsShort s
short_string s h = let sum = length-append (number (length s)) s in omega (arith, sum, h)

module _ {A : Type 0} (f : A → List ℕ) (P K : A → Type 0) (short : (x : A) → K x → length (f x) ≤ most_bytes → P x) where
  short_all : (xs : List A) → AllByRecursion K xs → length (flat_map f xs) ≤ most_bytes → AllByRecursion P xs
  short_all [] known h = tt
  short_all (x ∷ xs) known h = (short x known.0 (front_small (f x) (flat_map f xs) h), short_all xs known.1 (back_small (f x) (flat_map f xs) h))

  module _ (some : (x : A) → 1 ≤ length (f x)) where
    not_many : (xs : List A) → length xs ≤ length (flat_map f xs)
    not_many [] = omega arith
    not_many (x ∷ xs) = let one = some x in let rest = not_many xs in let sum = length-append (f x) (flat_map f xs) in omega (arith, one, rest, sum)

    short_list : (xs : List A) → AllByRecursion K xs → length (list_text f xs) ≤ most_bytes → IsShortList P xs
    short_list xs known h =
        let small = back_small (number (length xs)) (flat_map f xs) h in
        let count = not_many xs in
        record { few = omega (arith, small, count); each = short_all xs known small }

-- nothing has to be known
Nothing : {A : Type 0} → A → Type 0
Nothing x = Unit {0}

nothing : {A : Type 0} (xs : List A) → AllByRecursion (Nothing {A = A}) xs
unfolding Nothing
nothing [] = tt
nothing (x ∷ xs) = (tt, nothing xs)

short_hashed : (v : HashedValue) → length (hashed_text v) ≤ most_bytes → IsShortHashed v
short_hashed (hash.Text bytes) h = short_string bytes (back_small (number 0) (string bytes) h)
short_hashed (hash.Number n) h = tt

short_pair : (pair : HashedPair) → Nothing pair → length (pair_text pair) ≤ most_bytes → IsShortPair pair
short_pair pair known h = record {
  name = short_string pair.name (front_small (string pair.name) (hashed_text pair.value) h);
  value = short_hashed pair.value (back_small (string pair.name) (hashed_text pair.value) h);
}

short_content : (b : Bool) (minor : ℕ) (content : List ℕ) → nat_eq minor 0 ≡ b → (minor ≡ 0 → content ≡ plain_content) → length (cond b [] (string content)) ≤ most_bytes → IsShort content
short_content true minor content e plain h =
    let none : minor ≡ 0 = grind (arith, nat_tests) in
    let long : length content ≡ 10 = ap (λ (l : List ℕ). length l) (plain none) in
    omega (arith, long)
short_content false minor content e plain h = short_string content h

-- an item that is plain in version 0.0
PlainIn : ℕ → ClearItem → Type 0
PlainIn minor item = minor ≡ 0 → IsPlain item

plain_in : (minor : ℕ) (items : List ClearItem) → (minor ≡ 0 → AllByRecursion IsPlain items) → AllByRecursion (PlainIn minor) items
unfolding PlainIn
plain_in minor [] plain = tt
plain_in minor (x ∷ items) plain = (λ e. (plain e).0, plain_in minor items (λ e. (plain e).1))

short_clear_item : (minor : ℕ) (item : ClearItem) → PlainIn minor item → length (clear_item_text minor item) ≤ most_bytes → IsShortClearItem item
unfolding PlainIn
short_clear_item minor item plain h =
    let last = content_text minor item.content in
    let pairs = list_text pair_text item.hashed in
    let behind = back_small (number item.kind) (pairs ++ last) (back_small (number item.id.0) (number item.kind ++ (pairs ++ last)) h) in
    record {
      hashed = short_list pair_text IsShortPair Nothing short_pair (λ pair. some_string pair.name (hashed_text pair.value)) item.hashed (nothing item.hashed) (front_small pairs last behind);
      content = short_content (nat_eq minor 0) minor item.content refl plain (back_small pairs last behind);
    }

-- what is written for a clear part is short
pub short_clear : (clear : ClearPart) (n : ℕ) → (clear.minor ≡ 0 → AllByRecursion IsPlain clear.items) → length (clear_text clear n) ≤ most_bytes → IsShortClear clear
short_clear clear n plain small =
    let text = clear_item_text clear.minor in
    let items = list_text text clear.items in
    let behind = back_small (front_text clear) (items ++ number n) small in
    let front = front_small (front_text clear) (items ++ number n) small in
    let s4 = time clear.created ++ (time clear.modified ++ (number clear.flags ++ (number clear.timeout ++ (number clear.iterations ++ (clear.salt ++ zeros 16))))) in
    let name = front_small (string clear.name) s4 (back_small (version clear.minor) (string clear.name ++ s4) (back_small magic (version clear.minor ++ (string clear.name ++ s4)) front)) in
    record {
      name = short_string clear.name name;
      items = short_list text IsShortClearItem (PlainIn clear.minor) (short_clear_item clear.minor) (λ item. some_behind item.id.0 (number item.kind ++ (list_text pair_text item.hashed ++ content_text clear.minor item.content))) clear.items (plain_in clear.minor clear.items plain) (front_small items (number n) behind);
    }

short_value : (v : AttrValue) → length (value_text v) ≤ most_bytes → IsShortValue v
short_value (value.Text text) h = short_string text (back_small (number 0) (string text) h)
short_value (value.Number n) h = tt

short_attribute : (pair : List ℕ × AttrValue) → Nothing pair → length (attribute_text pair) ≤ most_bytes → IsShortAttribute pair
short_attribute pair known h = record {
  name = short_string pair.0 (front_small (string pair.0) (value_text pair.1) h);
  value = short_value pair.1 (back_small (string pair.0) (value_text pair.1) h);
}

short_access : (access : Access) → Nothing access → length (access_text access) ≤ most_bytes → IsShortAccess access
short_access access known h =
    let s3 = number none_length ++ number 0 in
    let s2 = string access.path ++ s3 in
    let h1 = back_small (number access.allowed) (string access.display ++ s2) h in
    record {
      display = short_string access.display (front_small (string access.display) s2 h1);
      path = short_string access.path (front_small (string access.path) s3 (back_small (string access.display) s2 h1));
    }

short_item : (item : FullItem) → Nothing item → length (item_text item) ≤ most_bytes → IsShortItem item
short_item item known h =
    let access = list_text access_text item.access in
    let attributes = list_text attribute_text item.attributes in
    let s6 = attributes ++ access in
    let s5 = zeros 16 ++ s6 in
    let s4 = number none_length ++ s5 in
    let s3 = time item.modified ++ s4 in
    let s2 = time item.created ++ s3 in
    let h1 = back_small (string item.label) (string item.value ++ s2) h in
    let h6 = back_small (zeros 16) s6 (back_small (number none_length) s5 (back_small (time item.modified) s4 (back_small (time item.created) s3 (back_small (string item.value) s2 h1)))) in
    record {
      label = short_string item.label (front_small (string item.label) (string item.value ++ s2) h);
      value = short_string item.value (front_small (string item.value) s2 h1);
      attributes = short_list attribute_text IsShortAttribute Nothing short_attribute (λ pair. some_string pair.0 (value_text pair.1)) item.attributes (nothing item.attributes) (front_small attributes access h6);
      access = short_list access_text IsShortAccess Nothing short_access (λ entry. some_behind entry.allowed (string entry.display ++ (string entry.path ++ (number none_length ++ number 0)))) item.access (nothing item.access) (back_small attributes access h6);
    }

-- what is written for items is short
pub short_items : (items : List FullItem) → length (area_text items) ≤ most_bytes → AllByRecursion IsShortItem items
short_items items small =
    let body = back_small (md5 (body_text items)) (body_text items) small in
    short_all item_text IsShortItem Nothing short_item items (nothing items) (front_small (flat_map item_text items) (zeros (padding (length (flat_map item_text items)))) body)
