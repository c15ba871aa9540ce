-- Each canonical text is a text of what it was written for.
use Rattle.std.proofs.Common.{◌≡◌, ℕ, ◌<◌, ◌^◌, Bool, true, false, cond, eqb, List, [], ◌∷◌, ◌++◌, length, refl, sym, ap, subst, ◌∙◌, append_assoc, arith}
use Rattle.std.specs.Cmp.Lexicographic.{slice_cmp}
use Rattle.std.specs.List.{flat_map, AllByRecursion}
use Rattle.std.specs.List.Sorted.{IsStrictlySortedBy}
use Rattle.std.specs.Map.{keys_of}
use Rattle.std.specs.Ordering.{nat_cmp, match_ordering}
use Rattle.std.proofs.lemmas.Bool.{eqb-true, eqb-false}
use Rattle.std.proofs.lemmas.List.{length-replicate}
use Rattle.std.proofs.lemmas.List.Concat.{flat_map-cons}
use Rattle.std.proofs.lemmas.Map.Keys.{IsDistinct-from_sorted}
use Rattle.md5.specs.Md5.{md5}
use Rattle.kr_base.specs.Attributes.{IsInOrder, Gathers}
use Rattle.kr_base.specs.Text.{IsText}
use Rattle.kr_base.specs.declared.attributes.AttrValue.{AttrValue}
use Rattle.kr_base.specs.declared.attributes.AttrValue.TheVariants as value
use Rattle.kr_base.specs.declared.hashed.HashedPair.{HashedPair}
use Rattle.kr_base.specs.declared.hashed.HashedValue.{HashedValue}
use Rattle.kr_base.specs.declared.hashed.HashedValue.TheVariants as hash
use Rattle.keyring_text.specs.Fields.{number, time, string, none_length, SpellsNumber, SpellsTime, SpellsString, some, none, SpellsText}
use Rattle.keyring_text.specs.Forms.{Joined, SpellsAll, SpellsList}
use Rattle.keyring_text.proofs.FieldLaws.{length-number}
use Rattle.keyring_file.specs.declared.area.Access.{Access}
use Rattle.keyring_file.specs.declared.area.FullItem.{FullItem}
use Rattle.keyring_file.specs.declared.clear.ClearItem.{ClearItem}
use Rattle.keyring_file.specs.Clear.{ClearPart, plain_content, IsPlain}
use Rattle.keyring_file.specs.ClearText.{magic, version, SpellsHashed, SpellsPair, SpellsContent, left_out, told, SpellsClearItem, SpellsClearItems, SpellsFront, SpellsSalt, SpellsClear, IsAreaLength, ClearText}
use Rattle.keyring_file.specs.AreaText.{SpellsValue, SpellsAttribute, SpellsAttributes, IsReservedString, SpellsAccess, SpellsItem, AreaText}
use Rattle.keyring_file.specs.Canonical.{list_text, hashed_text, pair_text, content_text, clear_item_text, zeros, clear_text, value_text, attribute_text, access_text, item_text, body_text, area_text, padding}
use Rattle.keyring_file.specs.Gathered.{with_pair, gathered}
use Rattle.keyring_file.specs.Short.{IsShort, IsShortHashed, IsShortPair, IsShortList, IsShortClearItem, IsShortClear, IsShortValue, IsShortAttribute, IsShortAccess, IsShortItem}
use Rattle.keyring_file.specs.Known.{IsKnownValue, IsKnownPair, IsKnownAccess, IsKnownItem}
use Rattle.keyring_file.specs.Sound.{IsSoundHashed, IsSoundPair, IsSoundClearItem, IsSoundClear}
use Rattle.keyring_file.proofs.GatheredLemmas.{gathers}

-- ---- fields

number-spelled : (n : ℕ) → n < 2 ^ 32 → SpellsNumber n (number n)
number-spelled n lt = record { fits = lt; is = refl }

time-spelled : (t : ℕ) → t < 2 ^ 64 → SpellsTime t (time t)
time-spelled t lt = record { fits = lt; is = refl }

string-spelled : (s : List ℕ) → IsShort s → SpellsString s (string s)
string-spelled s lt = some lt refl

text-spelled : (t : List ℕ) → IsText t → IsShort t → SpellsText t (string t)
text-spelled t is lt = record { text = is; string = string-spelled t lt }

-- one text after the other
joined : {P Q : List ℕ → Type 0} (front back : List ℕ) → P front → Q back → Joined P Q (front ++ back)
joined front back p q = record { front = front; back = back; parts = refl; is_first = p; is_second = q }

-- ---- lists

spelled-all : {A : Type 0} (P : A → List ℕ → Type 0) (text : A → List ℕ) (Q R : A → Type 0) → ((x : A) → Q x → R x → P x (text x)) → (xs : List A) → AllByRecursion Q xs → AllByRecursion R xs → SpellsAll P xs (flat_map text xs)
spelled-all P text Q R each [] q r = refl
spelled-all P text Q R each (x ∷ xs) q r =
    subst (λ w. Joined (P x) (SpellsAll P xs) w) (sym (flat_map-cons text x xs)) (joined (text x) (flat_map text xs) (each x q.0 r.0) (spelled-all P text Q R each xs q.1 r.1))

spelled-list : {A : Type 0} (P : A → List ℕ → Type 0) (text : A → List ℕ) (Q R : A → Type 0) → ((x : A) → Q x → R x → P x (text x)) → (xs : List A) → AllByRecursion Q xs → IsShortList R xs → SpellsList P xs (list_text text xs)
spelled-list P text Q R each xs q short = joined (number (length xs)) (flat_map text xs) (number-spelled (length xs) short.few) (spelled-all P text Q R each xs q short.each)

-- ---- the clear part

hashed-spelled : (v : HashedValue) → IsSoundHashed v → IsShortHashed v → SpellsHashed v (hashed_text v)
hashed-spelled (hash.Text s) sound short = joined (number 0) (string s) refl (string-spelled s short)
hashed-spelled (hash.Number n) sound short = joined (number 1) (number n) refl (number-spelled n sound)

pair-spelled : (p : HashedPair) → IsSoundPair p → IsShortPair p → SpellsPair p (pair_text p)
pair-spelled p sound short = joined (string p.name) (hashed_text p.value) (text-spelled p.name sound.name short.name) (hashed-spelled p.value sound.value short.value)

content-at : (minor : ℕ) (content : List ℕ) (b : Bool) → eqb minor 0 ≡ b → (minor ≡ 0 → content ≡ plain_content) → IsText content → IsShort content → SpellsContent minor content (cond b [] (string content))
content-at minor content true e plain is lt = let z = eqb-true minor 0 e in left_out z (plain z) refl
content-at minor content false e plain is lt = told (omega (arith, eqb-false minor 0 e)) (text-spelled content is lt)

clear_item-spelled : (minor : ℕ) (item : ClearItem) → (minor ≡ 0 → IsPlain item) → IsSoundClearItem item → IsShortClearItem item → SpellsClearItem minor item (clear_item_text minor item)
clear_item-spelled minor item plain sound short =
    joined (number item.id.0) (number item.kind ++ (list_text pair_text item.hashed ++ content_text minor item.content)) (number-spelled item.id.0 sound.known.id)
    (joined (number item.kind) (list_text pair_text item.hashed ++ content_text minor item.content) (number-spelled item.kind sound.known.kind)
    (joined (list_text pair_text item.hashed) (content_text minor item.content)
    (record { distinct = sound.distinct; list = spelled-list SpellsPair pair_text IsSoundPair IsShortPair pair-spelled item.hashed sound.hashed short.hashed })
    (content-at minor item.content (eqb minor 0) refl plain sound.known.content short.content)))

-- an item that is sound, and plain in version 0.0
abbrev Fine : ℕ → ClearItem → Type 0
Fine minor item = IsSoundClearItem item × (minor ≡ 0 → IsPlain item)

all-fine : (minor : ℕ) (items : List ClearItem) → AllByRecursion IsSoundClearItem items → (minor ≡ 0 → AllByRecursion IsPlain items) → AllByRecursion (Fine minor) items
all-fine minor [] sound plain = tt
all-fine minor (x ∷ xs) sound plain = ((sound.0, λ z. (plain z).0), all-fine minor xs sound.1 (λ z. (plain z).1))

clear_items-spelled : (clear : ClearPart) → IsSoundClear clear → IsShortClear clear → SpellsClearItems clear.minor clear.items (list_text (clear_item_text clear.minor) clear.items)
clear_items-spelled clear sound short = record {
  distinct = sound.distinct;
  list = spelled-list (SpellsClearItem clear.minor) (clear_item_text clear.minor) (Fine clear.minor) IsShortClearItem (λ item fine s. clear_item-spelled clear.minor item fine.1 fine.0 s) clear.items
      (all-fine clear.minor clear.items sound.items sound.known.version.plain) short.items;
}

-- the front up to the iterations
abbrev front_part : ClearPart → List ℕ
front_part c = string c.name ++ (time c.created ++ (time c.modified ++ (number c.flags ++ (number c.timeout ++ number c.iterations))))

front-spelled : (c : ClearPart) → IsSoundClear c → IsShort c.name → SpellsFront c (front_part c)
front-spelled c sound short =
    joined (string c.name) (time c.created ++ (time c.modified ++ (number c.flags ++ (number c.timeout ++ number c.iterations)))) (text-spelled c.name sound.known.name short)
    (joined (time c.created) (time c.modified ++ (number c.flags ++ (number c.timeout ++ number c.iterations))) (time-spelled c.created sound.known.created)
    (joined (time c.modified) (number c.flags ++ (number c.timeout ++ number c.iterations)) (time-spelled c.modified sound.known.modified)
    (joined (number c.flags) (number c.timeout ++ number c.iterations) (number-spelled c.flags sound.known.flags)
    (joined (number c.timeout) (number c.iterations) (number-spelled c.timeout sound.known.timeout) (record { few = sound.iterations; number = number-spelled c.iterations (omega (arith, sound.iterations)) })))))

zeros-length : (n : ℕ) → length (zeros n) ≡ n
zeros-length n = length-replicate {A = ℕ} n 0

salt-spelled : (salt : List ℕ) → length salt ≡ 8 → SpellsSalt salt (salt ++ zeros 16)
salt-spelled salt len = joined salt (zeros 16) (record { is = refl; len = len }) (record { len = zeros-length 16 })

regroup : (m v n c d f t i s z l k a : List ℕ)
    → ((m ++ (v ++ (n ++ (c ++ (d ++ (f ++ (t ++ (i ++ (s ++ z))))))))) ++ (l ++ k)) ++ a ≡ (m ++ (v ++ ((n ++ (c ++ (d ++ (f ++ (t ++ i))))) ++ ((s ++ z) ++ l)))) ++ (k ++ a)
regroup m v n c d f t i s z l k a = simp append_assoc

-- the canonical clear part, followed by an area
pub clear-written : (clear : ClearPart) (area : List ℕ) → IsSoundClear clear → IsShortClear clear → IsAreaLength (length area) → length area < 2 ^ 32 → ClearText (clear_text clear (length area) ++ area) clear area
clear-written c area sound short blocks lt =
    let items = list_text (clear_item_text c.minor) c.items in
    let salt = c.salt ++ zeros 16 in
    let front = front_part c in
    let clears : SpellsClear c (magic ++ (version c.minor ++ (front ++ (salt ++ items)))) =
    joined magic (version c.minor ++ (front ++ (salt ++ items))) refl
    (joined (version c.minor) (front ++ (salt ++ items)) (record { known = sound.known.version.known; is = refl })
    (joined front (salt ++ items) (front-spelled c sound short.name) (joined salt items (salt-spelled c.salt sound.known.salt) (clear_items-spelled c sound short)))) in
    let tail = number (length area) ++ area in
    let is : clear_text c (length area) ++ area ≡ (magic ++ (version c.minor ++ (front ++ (salt ++ items)))) ++ tail =
    regroup magic (version c.minor) (string c.name) (time c.created) (time c.modified) (number c.flags) (number c.timeout) (number c.iterations) c.salt (zeros 16) items (number (length area)) area in
    record {
      blocks = blocks;
      text = record {
        front = magic ++ (version c.minor ++ (front ++ (salt ++ items)));
        back = tail;
        parts = is;
        is_first = clears;
        is_second = joined (number (length area)) area (number-spelled (length area) lt) refl;
      };
    }

-- ---- the area

value-spelled : (v : AttrValue) → IsKnownValue v → IsShortValue v → SpellsValue v (value_text v)
value-spelled (value.Text t) known short = joined (number 0) (string t) refl (text-spelled t known short)
value-spelled (value.Number n) known short = joined (number 1) (number n) refl (number-spelled n known)

attribute-spelled : (p : List ℕ × AttrValue) → IsKnownPair p → IsShortAttribute p → SpellsAttribute p (attribute_text p)
attribute-spelled p known short = joined (string p.0) (value_text p.1) (text-spelled p.0 known.name short.name) (value-spelled p.1 known.value short.value)

-- a pair that comes before a list in order is put before it
in_order-with : {V : Type 0} (pair : List ℕ × V) (xs : List (List ℕ × V)) → IsInOrder (pair ∷ xs) → with_pair pair xs ≡ pair ∷ xs
unfolding IsStrictlySortedBy
in_order-with pair [] h = refl
in_order-with pair (x ∷ xs) h = ap (λ o. match_ordering o (pair ∷ x ∷ xs) (x ∷ xs) (x ∷ with_pair pair xs)) h.0.0

in_order-again : {V : Type 0} (xs : List (List ℕ × V)) → IsInOrder xs → gathered xs ≡ xs
unfolding gathered IsStrictlySortedBy
in_order-again [] h = refl
in_order-again (x ∷ xs) h = ap (λ ys. with_pair x ys) (in_order-again xs h.1) ∙ in_order-with x xs h

attributes-spelled : (xs : List (List ℕ × AttrValue)) → IsInOrder xs → AllByRecursion IsKnownPair xs → IsShortList IsShortAttribute xs → SpellsAttributes xs (list_text attribute_text xs)
attributes-spelled xs ordered known short = record {
  pairs = xs;
  gathers = subst (λ ys. Gathers xs ys) (in_order-again xs ordered) (gathers xs);
  keyed = record { distinct = IsDistinct-from_sorted (slice_cmp nat_cmp) (keys_of xs) ordered; list = spelled-list SpellsAttribute attribute_text IsKnownPair IsShortAttribute attribute-spelled xs known short };
}

none-reserved : IsReservedString (number none_length)
none-reserved = record { s = []; string = none refl refl }

access-spelled : (a : Access) → IsKnownAccess a → IsShortAccess a → SpellsAccess a (access_text a)
access-spelled a known short =
    joined (number a.allowed) (string a.display ++ (string a.path ++ (number none_length ++ number 0))) (number-spelled a.allowed known.allowed)
    (joined (string a.display) (string a.path ++ (number none_length ++ number 0)) (text-spelled a.display known.display short.display)
    (joined (string a.path) (number none_length ++ number 0) (text-spelled a.path known.path short.path) (joined (number none_length) (number 0) none-reserved (record { len = length-number 0 }))))

item-spelled : (x : FullItem) → IsKnownItem x → IsShortItem x → SpellsItem x (item_text x)
item-spelled x known short =
    let lists = list_text attribute_text x.attributes ++ list_text access_text x.access in
    joined (string x.label) (string x.value ++ (time x.created ++ (time x.modified ++ (number none_length ++ (zeros 16 ++ lists))))) (text-spelled x.label known.label short.label)
    (joined (string x.value) (time x.created ++ (time x.modified ++ (number none_length ++ (zeros 16 ++ lists)))) (string-spelled x.value short.value)
    (joined (time x.created) (time x.modified ++ (number none_length ++ (zeros 16 ++ lists))) (time-spelled x.created known.created)
    (joined (time x.modified) (number none_length ++ (zeros 16 ++ lists)) (time-spelled x.modified known.modified)
    (joined (number none_length) (zeros 16 ++ lists) none-reserved
    (joined (zeros 16) lists (record { len = zeros-length 16 })
    (joined (list_text attribute_text x.attributes) (list_text access_text x.access) (attributes-spelled x.attributes known.ordered known.attributes short.attributes)
    (spelled-list SpellsAccess access_text IsKnownAccess IsShortAccess access-spelled x.access known.access short.access)))))))

-- the canonical area
pub area-written : (items : List FullItem) → AllByRecursion IsKnownItem items → AllByRecursion IsShortItem items → AreaText (area_text items) items
area-written items known short = record {
  rest = body_text items;
  check = joined (md5 (body_text items)) (body_text items) refl refl;
  text = joined (flat_map item_text items) (zeros (padding (length (flat_map item_text items)))) (spelled-all SpellsItem item_text IsKnownItem IsShortItem item-spelled items known short) (record { any = tt });
}
