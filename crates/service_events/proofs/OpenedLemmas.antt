-- What a file opens to has its types, if the file consists of bytes. So the collections stay sound once one of them is unlocked.
use Rattle.std.proofs.Common.{◌≡◌, ℕ, zero, suc, ◌<◌, ◌/◌, Bool, true, false, codes, cond, IfSome, List, [], ◌∷◌, ◌++◌, drop, length, map, take, Option, Some, None, Result, Ok, Err, refl, sym, ap, subst, ◌∙◌, arith, w32}
use Rattle.std.specs.Int.{to_be_bytes}
use Rattle.std.specs.List.{AllByRecursion, slice_get, zip}
use Rattle.std.specs.Option.{option_or}
use Rattle.std.proofs.lemmas.Map.Lookups.{exact_bytes}
use Rattle.std.proofs.lemmas.Option.{none-some}
use Rattle.sha2.specs.Sha256.{digest_bytes, sha256}
use Rattle.kr_base.specs.Attributes.{Gathers, is_name, last_value}
use Rattle.kr_base.specs.declared.attributes.AttrValue.{AttrValue}
use Rattle.kr_base.specs.declared.attributes.AttrValue.TheVariants as value
use Rattle.kr_base.specs.Text.{IsText}
use Rattle.kr_base.proofs.OrderedLemmas.{is_equal}
use Rattle.kr_names.proofs.TextLemmas.{IsPlain, IsText-plain}
use Rattle.std.proofs.lemmas.List.Elements.{All-from_recursion}
use Rattle.std.specs.Cmp.Lexicographic.{slice_cmp}
use Rattle.std.specs.Ordering.{nat_cmp}
use Rattle.aes_cbc.specs.Aes.{inverse_cipher, inverse_rounds, key_schedule, round_key}
use Rattle.aes_cbc.specs.Cbc.{deciphered, decrypted}
use Rattle.aes_cbc.proofs.StateLemmas.{IsSmall, IsState-added, IsState-inverse_mix_columns, IsState-inverse_shift_rows, IsState-inverse_sub_bytes, IsState-round_key, drop_small, take_small}
use Rattle.key_derivation.specs.Kdf.{Inputs, hashed, kdf, key_of, vector_of}
use Rattle.keyring_text.specs.Fields.{IsBytes, SpellsString, some, none, number}
use Rattle.keyring_text.specs.Forms.{SpellsAll}
use Rattle.keyring_text.specs.FieldReading.{◌>>=◌}
use Rattle.keyring_text.proofs.Laws.{IsBytes-behind}
use Rattle.keyring_file.specs.AreaText.{AreaText, SpellsAccess, SpellsAttribute, SpellsAttributes, SpellsItem, SpellsValue}
use Rattle.keyring_file.specs.Clear.{ClearPart, plain_content}
use Rattle.keyring_file.specs.ClearText.{HasClear, SpellsClearItem, SpellsContent, left_out, told}
use Rattle.keyring_file.specs.Known.{IsKnownAccess, IsKnownClearItem, IsKnownItem, IsKnownPair, IsKnownValue}
use Rattle.keyring_file.specs.FileReading.{area_read, clear_read}
use Rattle.keyring_file.specs.declared.area.Access.{Access}
use Rattle.keyring_file.specs.declared.area.FullItem.{FullItem}
use Rattle.keyring_file.specs.declared.clear.ClearItem.{ClearItem}
use Rattle.keyring_file.specs.declared.fault.AreaFault.{AreaFault}
use Rattle.keyring_file.specs.declared.fault.ClearFault.{ClearFault}
use Rattle.keyring_file.proofs.AreaLaws.{area_found}
use Rattle.keyring_file.proofs.FileLaws.{file_again, file_found}
use Rattle.service_prompts.specs.keyring_seal.specs.Arranged.{Row, arranged_rows, hashed_row, row_number, rows}
use Rattle.service_prompts.specs.keyring_seal.specs.Order.{by_number}
use Rattle.service_prompts.specs.keyring_seal.specs.Whole.{in_area_part, in_clear_part, opened}
use Rattle.service_prompts.specs.keyring_seal.specs.declared.content.Content.{Content}
use Rattle.service_prompts.specs.keyring_seal.specs.declared.opening.OpenFault.{OpenFault}
use Rattle.service_prompts.specs.keyring_seal.proofs.ArrangeLemmas.{all_by_number}
use Rattle.service_prompts.specs.collection_store.specs.State.{by_id, ids_of, shown_image}
use Rattle.replace_slot.specs.Cell.{File, Known, Doubt}
use Rattle.service_prompts.specs.collection_table.specs.Rows.{CollectionRow, Rows}
use Rattle.service_prompts.specs.collection_table.proofs.EntryLemmas.{changed_in_order, found_there}
use Rattle.service_disk.specs.Opening.{held_by, held_under, opening_in, row_by, row_opened, rows_opened}
use Rattle.service_disk.specs.declared.opening.Opening.{Opening}
use Rattle.service_disk.specs.declared.opening.Opening.TheVariants as ends
use Rattle.service_prompts.specs.service_tables.specs.Sound.{AreSoundCollections, AreSoundItems, HoldsShown, IsSoundCollection, IsSoundItem, ShowsItems}
use Rattle.service_prompts.specs.service_tables.proofs.EachLemmas.{each-mapped, each-weaker}
use Rattle.service_prompts.specs.service_tables.proofs.HeldLemmas.{arranged-ids}
use Rattle.service_events.specs.Step.{AreByteFiles, AreByteImages}

-- ---- bytes

no-bytes : IsBytes []
no-bytes i = omega arith

next-bytes : (x : ℕ) (xs : List ℕ) → x < 256 → IsBytes xs → IsBytes (x ∷ xs)
next-bytes x xs first rest zero = first
next-bytes x xs first rest (suc i) = rest i

both-bytes : (front back : List ℕ) → IsBytes front → IsBytes back → IsBytes (front ++ back)
both-bytes [] back p q = q
both-bytes (x ∷ front) back p q = next-bytes x (front ++ back) (p zero) (both-bytes front back (λ i. p (suc i)) q)

front-bytes : (front back : List ℕ) → IsBytes (front ++ back) → IsBytes front
front-bytes [] back both i = omega arith
front-bytes (x ∷ front) back both zero = both zero
front-bytes (x ∷ front) back both (suc i) = front-bytes front back (λ j. both (suc j)) i

word-bytes : (n : ℕ) → IsBytes (to_be_bytes w32 n)
word-bytes n zero = omega arith
word-bytes n (suc zero) = omega arith
word-bytes n (suc (suc zero)) = omega arith
word-bytes n (suc (suc (suc zero))) = omega arith
word-bytes n (suc (suc (suc (suc i)))) = omega arith

-- ---- a decrypted area, and the vector

rounds-small : (w s : List ℕ) (n : ℕ) → IsSmall s → IsSmall (inverse_rounds w s n)
unfolding inverse_rounds
rounds-small w s zero small = (IsState-added s (round_key w 10) small (IsState-round_key w 10).small).small
rounds-small w s (suc n) small =
    (IsState-inverse_mix_columns _ (IsState-added _ _ (IsState-inverse_sub_bytes _ (IsState-inverse_shift_rows _ (rounds-small w s n small)).small).small (IsState-round_key w _).small).small).small

block-small : (w s : List ℕ) → IsSmall s → IsSmall (inverse_cipher w s)
unfolding inverse_cipher
block-small w s small =
    (IsState-added _ (round_key w 0) (IsState-inverse_sub_bytes _ (IsState-inverse_shift_rows _ (rounds-small w s 9 small)).small).small (IsState-round_key w 0).small).small

deciphered-bytes : (w before : List ℕ) (n : ℕ) (bytes : List ℕ) → IsSmall before → IsSmall bytes → IsBytes (deciphered w before n bytes)
unfolding deciphered
deciphered-bytes w before zero bytes first all = no-bytes
deciphered-bytes w before (suc n) bytes first all =
    let block = take_small 16 bytes all in
    both-bytes _ (deciphered w (take 16 bytes) n (drop 16 bytes)) (IsState-added _ before (block-small w (take 16 bytes) block) first).small.byte
    (deciphered-bytes w (take 16 bytes) n (drop 16 bytes) block (drop_small 16 bytes all))

decrypted-bytes : (key vector area : List ℕ) → IsBytes vector → IsBytes area → IsBytes (decrypted key vector area)
decrypted-bytes key vector area first all = deciphered-bytes (key_schedule key) vector (length area / 16) area (record { byte = first }) (record { byte = all })

digest-bytes : (h : List ℕ) (n : ℕ) → IsBytes (digest_bytes h n)
unfolding digest_bytes
digest-bytes h zero = no-bytes
digest-bytes h (suc n) = both-bytes (digest_bytes h n) _ (digest-bytes h n) (word-bytes _)

sha-bytes : (m : List ℕ) → IsBytes (sha256 m)
unfolding sha256
sha-bytes m = digest-bytes _ 8

hashed-bytes : (n : ℕ) (digest : List ℕ) → IsBytes digest → IsBytes (hashed n digest)
unfolding hashed
hashed-bytes zero digest is = is
hashed-bytes (suc n) digest is = sha-bytes (hashed n digest)

vector-bytes : (from : Inputs) → IsBytes (vector_of from)
vector-bytes from = (drop_small 16 (kdf from.password from.salt from.iterations) (record { byte = hashed-bytes _ _ (sha-bytes _) })).byte

-- ---- the clear part

plain-text : IsText plain_content
plain-text = IsText-plain (codes "text/plain") (All-from_recursion IsPlain (codes "text/plain")
    ((omega arith, omega arith), ((omega arith, omega arith), ((omega arith, omega arith), ((omega arith, omega arith), ((omega arith, omega arith), ((omega arith, omega arith), ((omega arith, omega arith), ((omega arith, omega arith), ((omega arith, omega arith), ((omega arith, omega arith), tt)))))))))))

content-known : (minor : ℕ) (content bytes : List ℕ) → SpellsContent minor content bytes → IsText content
content-known minor content bytes (left_out first plain empty) = subst (λ text. IsText text) (sym plain) plain-text
content-known minor content bytes (told later text) = text.text

clear-item : (minor : ℕ) (item : ClearItem) (bytes : List ℕ) → SpellsClearItem minor item bytes → IsKnownClearItem item
clear-item minor item bytes is = record {
  id = is.is_first.fits;
  kind = is.is_second.is_first.fits;
  content = content-known minor item.content is.is_second.is_second.back is.is_second.is_second.is_second;
}

clear-items : (minor : ℕ) (items : List ClearItem) (bytes : List ℕ) → SpellsAll (SpellsClearItem minor) items bytes → AllByRecursion IsKnownClearItem items
clear-items minor [] bytes is = tt
clear-items minor (item ∷ items) bytes is = (clear-item minor item is.front is.is_first, clear-items minor items is.back is.is_second)

clear-known : (image : List ℕ) (clear : ClearPart) → HasClear image clear → AllByRecursion IsKnownClearItem clear.items
clear-known image clear (area, text) =
    let these = text.text.is_first.is_second.is_second.is_second.is_second.list in
    clear-items clear.minor clear.items these.back these.is_second

-- ---- the area

string-bytes : (s bytes : List ℕ) → IsBytes bytes → SpellsString s bytes → IsBytes s
string-bytes s bytes fits (some short is) = IsBytes-behind (number (length s)) s (subst IsBytes is fits)
string-bytes s bytes fits (none empty is) = subst IsBytes (sym empty) no-bytes

value-known : (v : AttrValue) (bytes : List ℕ) → SpellsValue v bytes → IsKnownValue v
value-known (value.Text text) bytes is = is.is_second.text
value-known (value.Number n) bytes is = is.is_second.fits

pairs-known : (pairs : List (List ℕ × AttrValue)) (bytes : List ℕ) → SpellsAll SpellsAttribute pairs bytes → AllByRecursion IsKnownPair pairs
pairs-known [] bytes is = tt
pairs-known (pair ∷ pairs) bytes is =
    (record { name = is.is_first.is_first.text; value = value-known pair.1 is.is_first.back is.is_first.is_second }, pairs-known pairs is.back is.is_second)

-- what is true of each pair is true of the last one that has a name
last-known : (name : List ℕ) (v : AttrValue) (pairs : List (List ℕ × AttrValue)) → AllByRecursion IsKnownPair pairs → last_value name pairs ≡ Some v → IsKnownPair (name, v)
last-known name v [] all is = absurd (none-some v is)
last-known name v (pair ∷ pairs) all is =
    let here : (b : Bool) → is_name pair.0 name ≡ b → cond b (Some pair.1) None ≡ Some v → IsKnownPair (name, v) =
    elim [
      | true ↦ λ named found.
          let names : pair.0 ≡ name = exact_bytes pair.0 name (is_equal (slice_cmp nat_cmp pair.0 name) named) in
          let values : pair.1 ≡ v = cc in
          subst IsKnownPair (λ i. (names i, values i)) all.0
      | false ↦ λ named found. absurd (none-some v found)
    ] in
    let pass : (o : Option AttrValue) → last_value name pairs ≡ o → option_or o (cond (is_name pair.0 name) (Some pair.1) None) ≡ Some v → IsKnownPair (name, v) =
    elim [
      | None ↦ λ at found. here (is_name pair.0 name) refl found
      | Some other ↦ λ at found. let same : other ≡ v = cc in last-known name v pairs all.1 (at ∙ ap Some same)
    ] in
    pass (last_value name pairs) refl is

each-at : {X : Type 0} (P : X → Type 0) (xs : List X) → ((i : ℕ) (x : X) → slice_get xs i ≡ Some x → P x) → AllByRecursion P xs
each-at P [] says = tt
each-at P (x ∷ xs) says = (says 0 x refl, each-at P xs (λ i other at. says (suc i) other at))

gathered-known : (pairs attributes : List (List ℕ × AttrValue)) → Gathers pairs attributes → AllByRecursion IsKnownPair pairs → AllByRecursion IsKnownPair attributes
gathered-known pairs attributes gathers all =
    each-at IsKnownPair attributes (λ i pair at. last-known pair.0 pair.1 pairs all (sym (gathers.values pair.0) ∙ found_there attributes pair.0 i pair.1 gathers.ordered at))

accesses-known : (these : List Access) (bytes : List ℕ) → SpellsAll SpellsAccess these bytes → AllByRecursion IsKnownAccess these
accesses-known [] bytes is = tt
accesses-known (access ∷ these) bytes is =
    let one = is.is_first in
    (record { allowed = one.is_first.fits; display = one.is_second.is_first.text; path = one.is_second.is_second.is_first.text }, accesses-known these is.back is.is_second)

item-known : (item : FullItem) (bytes : List ℕ) → IsBytes bytes → SpellsItem item bytes → IsKnownItem item
item-known item bytes fits is =
    let behind : IsBytes is.back = IsBytes-behind is.front is.back (subst IsBytes is.parts fits) in
    let after = is.is_second in
    let secret : IsBytes after.front = front-bytes after.front after.back (subst IsBytes after.parts behind) in
    let times = after.is_second in
    let lists = times.is_second.is_second.is_second.is_second in
    let attributes : SpellsAttributes item.attributes lists.front = lists.is_first in
    record {
      label = is.is_first.text;
      value = string-bytes item.value after.front secret after.is_first;
      created = times.is_first.fits;
      modified = times.is_second.is_first.fits;
      ordered = attributes.gathers.ordered;
      attributes = gathered-known attributes.pairs item.attributes attributes.gathers (pairs-known attributes.pairs attributes.keyed.list.back attributes.keyed.list.is_second);
      access = accesses-known item.access lists.is_second.back lists.is_second.is_second;
    }

items-known : (items : List FullItem) (bytes : List ℕ) → IsBytes bytes → SpellsAll SpellsItem items bytes → AllByRecursion IsKnownItem items
items-known [] bytes fits is = tt
items-known (item ∷ items) bytes fits is =
    let parts : IsBytes (is.front ++ is.back) = subst IsBytes is.parts fits in
    (item-known item is.front (front-bytes is.front is.back parts) is.is_first, items-known items is.back (IsBytes-behind is.front is.back parts) is.is_second)

area-known : (area : List ℕ) (items : List FullItem) → IsBytes area → AreaText area items → AllByRecursion IsKnownItem items
area-known area items fits is =
    let back : IsBytes is.check.back = IsBytes-behind is.check.front is.check.back (subst IsBytes is.check.parts fits) in
    let rest : IsBytes is.rest = subst IsBytes is.check.is_second back in
    items-known items is.text.front (front-bytes is.text.front is.text.back (subst IsBytes is.text.parts rest)) is.text.is_first

-- ---- a content

-- both halves of a content
record IsKnownContent (content : Content) : Type 0 where
  clear : AllByRecursion IsKnownClearItem content.clear.items
  items : AllByRecursion IsKnownItem content.items
  counted : length content.items ≡ length content.clear.items

abbrev with_area : ClearPart → Result (List FullItem) AreaFault → Result Content OpenFault
with_area clear read = do
  items ← in_area_part read
  Ok (record { clear = clear; items = items })

area-part : (clear : ClearPart) (read : Result (List FullItem) AreaFault) (content : Content) → with_area clear read ≡ Ok content
    → (content.clear ≡ clear) × (read ≡ Ok content.items)
area-part clear (Ok items) content e =
    let same : record { clear = clear; items = items } ≡ content = cc in
    (sym (ap (λ (c : Content). c.clear) same), ap (λ (c : Content). Ok c.items) same)
area-part clear (Err other) content e = absurd cc

module _ (file key vector : List ℕ) (fits : IsBytes file) (first : IsBytes vector) where
  parts-known : (read : Result (ClearPart × List ℕ) ClearFault) (content : Content) → clear_read file ≡ read
      → (in_clear_part read) >>= (λ (part : ClearPart × List ℕ). with_area part.0 (area_read (length part.0.items) (decrypted key vector part.1))) ≡ Ok content → IsKnownContent content
  parts-known (Ok (clear, area)) content at e =
      let both = area-part clear (area_read (length clear.items) (decrypted key vector area)) content e in
      let text = file_found file area clear fits at in
      let hidden : IsBytes area = IsBytes-behind _ area (subst IsBytes (text.text.parts ∙ ap (λ back. text.text.front ++ back) (text.text.is_second.parts ∙ ap (λ back. text.text.is_second.front ++ back) text.text.is_second.is_second) ∙ sym (append-parts text.text.front text.text.is_second.front area)) fits) in
      let shown = decrypted-bytes key vector area first hidden in
      let found = area_found (decrypted key vector area) (length clear.items) content.items shown both.1 in
      record {
        clear = subst (λ (c : ClearPart). AllByRecursion IsKnownClearItem c.items) (sym both.0) (clear-known file clear (area, text));
        items = area-known (decrypted key vector area) content.items shown found.0;
        counted = found.1 ∙ ap (λ (c : ClearPart). length c.items) (sym both.0);
      }
    where
      append-parts : (a b c : List ℕ) → (a ++ b) ++ c ≡ a ++ (b ++ c)
      append-parts [] b c = refl
      append-parts (x ∷ a) b c = ap (λ l. x ∷ l) (append-parts a b c)
  parts-known (Err fault) content at e = absurd cc

  opened-known : (content : Content) → opened file key vector ≡ Ok content → IsKnownContent content
  unfolding opened
  opened-known content e = parts-known (clear_read file) content refl e

zip-sound : (clear : List ClearItem) (items : List FullItem) → AllByRecursion IsKnownClearItem clear → AllByRecursion IsKnownItem items → AllByRecursion IsSoundItem (zip clear items)
zip-sound [] items first second = tt
zip-sound (one ∷ clear) [] first second = tt
zip-sound (one ∷ clear) (item ∷ items) first second = (record { clear = first.0; full = second.0 }, zip-sound clear items first.1 second.1)

arranged-sound : (content : Content) → IsKnownContent content → AllByRecursion IsSoundItem (arranged_rows content)
arranged-sound content known =
    let sorted = all_by_number row_number IsSoundItem (rows content) (zip-sound content.clear.items content.items known.clear known.items) in
    each-mapped hashed_row IsSoundItem (by_number row_number (rows content))
    (each-weaker IsSoundItem (λ (row : Row). IsSoundItem (hashed_row row))
    (λ row is. record { clear = record { id = is.clear.id; kind = is.clear.kind; content = is.clear.content }; full = is.full }) (by_number row_number (rows content)) sorted)

-- ---- what is shown of it

-- a file that opens has the clear part of its content
opened-clear : (file key vector : List ℕ) (part : ClearPart) (content : Content) → HasClear file part → opened file key vector ≡ Ok content → content.clear ≡ part
unfolding opened
opened-clear file key vector part content (area, is) e =
    let read = file_again file area part is in
    let after = rw read at e in
    (area-part part (area_read (length part.items) (decrypted key vector area)) content after).0

-- a file that opens holds the items that are shown
opened-shown : (bytes key vector : List ℕ) (content : Content) (clear : ClearPart) → opened bytes key vector ≡ Ok content → length content.items ≡ length content.clear.items → ShowsItems (Some bytes) clear
    → ids_of clear.items ≡ map row_number (arranged_rows content)
opened-shown bytes key vector content clear opens counted (part, has, same) =
    same ∙ ap (λ (c : ClearPart). ids_of (by_id c).items) (sym (opened-clear bytes key vector part content has opens)) ∙ arranged-ids content counted

-- ---- a collection

module _ (key : Inputs) where
  held-sound : (file : File) → AreByteImages file → IfSome (held_under key file) AreSoundItems
  held-sound (Known None) fits = tt
  held-sound (Known (Some bytes)) fits =
      let pass : (r : Result Content OpenFault) → opened bytes (key_of key) (vector_of key) ≡ r → IfSome (held_by key r) AreSoundItems =
      elim [
        | Ok content ↦ λ is. arranged-sound content (opened-known bytes (key_of key) (vector_of key) fits.0 (vector-bytes key) content is)
        | Err fault ↦ λ is. tt
      ] in
      pass (opened bytes (key_of key) (vector_of key)) refl
  held-sound (Doubt old new) fits = tt

  held-shown : (file : File) (clear : ClearPart) → AreByteImages file → ShowsItems (shown_image file) clear → IfSome (held_under key file) (HoldsShown file clear)
  held-shown (Known None) clear fits shows = tt
  held-shown (Known (Some bytes)) clear fits shows =
      let pass : (r : Result Content OpenFault) → opened bytes (key_of key) (vector_of key) ≡ r → IfSome (held_by key r) (HoldsShown (Known (Some bytes)) clear) =
      elim [
        | Ok content ↦ λ is.
            let counted = (opened-known bytes (key_of key) (vector_of key) fits.0 (vector-bytes key) content is).counted in
            record { known = tt; items = opened-shown bytes (key_of key) (vector_of key) content clear is counted shows }
        | Err fault ↦ λ is. tt
      ] in
      pass (opened bytes (key_of key) (vector_of key)) refl
  held-shown (Doubt old new) clear fits shows = tt

  row-sound : (how : Opening) (stem : List ℕ) (row : CollectionRow) → AreByteImages row.file → IsSoundCollection (stem, row) → IsSoundCollection (stem, row_by key how row)
  row-sound ends.Settled stem row fits sound = sound
  row-sound ends.Unfit stem row fits sound = sound
  row-sound ends.WrongPassword stem row fits sound = sound
  row-sound ends.Damaged stem row fits sound = sound
  row-sound ends.Opened stem row fits sound = record {
    stem = sound.stem;
    shown = sound.shown;
    other = sound.other;
    held = held-sound row.file fits;
    image = sound.image;
    newer = sound.newer;
    holds = held-shown row.file row.clear fits sound.image;
  }

  each-opened : (stem : List ℕ) (these : Rows) → AreByteFiles these → AllByRecursion IsSoundCollection these → AllByRecursion IsSoundCollection (rows_opened key stem these)
  each-opened stem [] fits all = tt
  each-opened stem (row ∷ these) fits all =
      let pass : (b : Bool) → IsSoundCollection (cond b (row.0, row_opened key row.1) row) = elim [ true ↦ row-sound (opening_in key row.1) row.0 row.1 fits.0 all.0 | false ↦ all.0 ] in
      (pass (is_name stem row.0), each-opened stem these fits.1 all.1)

  -- one of the collections was to be unlocked
  pub sound-opened : (stem : List ℕ) (these : Rows) → AreByteFiles these → AreSoundCollections these → AreSoundCollections (rows_opened key stem these)
  sound-opened stem these fits sound = record {
    ordered = changed_in_order stem (row_opened key) these sound.ordered;
    each = each-opened stem these fits sound.each;
  }
