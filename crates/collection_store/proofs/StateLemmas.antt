-- The invariant of a collection, for each call.
use Rattle.std.proofs.Common.{◌≡◌, ℕ, Bool, true, false, cond, nat_eq, List, [], ◌∷◌, length, map, Option, Some, None, Result, Ok, Err, refl, sym, ap, subst, ◌∙◌, arith}
use Rattle.std.specs.Prelude.{max, IfNone, IfSome, IsSome, OnErr, OnOk}
use Rattle.std.specs.List.{AllByRecursion}
use Rattle.std.specs.Map.{keys_of}
use Rattle.std.specs.Option.{is_some, option_map}
use Rattle.std.proofs.lemmas.List.{length-map}
use Rattle.attribute_hash.specs.Hash.{hashes}
use Rattle.item_store.specs.Rows.{Rows}
use Rattle.keyring_seal.specs.Arranged.{Row, arranged_rows, of_rows}
use Rattle.keyring_seal.specs.Order.{by_number}
use Rattle.keyring_seal.specs.Told.{HasSorted}
use Rattle.keyring_seal.specs.Whole.{opened}
use Rattle.keyring_seal.specs.declared.content.Content.{Content}
use Rattle.collection_store.proofs.OpenedLemmas.{Spelled, opened_clear}
use Rattle.kr_outside.specs.RenameDisk.{Image}
use Rattle.replace_slot.specs.Cell.{File, Known, Doubt, IsKnown, IsKnownFile, HasFile, old_image}
use Rattle.replace_slot.specs.Found.{found_file}
use Rattle.replace_slot.specs.declared.cell.RemoveFault.{RemoveFault}
use Rattle.replace_slot.specs.declared.images.Found.{Found}
use Rattle.replace_slot.specs.declared.images.Found.TheVariants.{Old, New, Other}
use Rattle.keyring_file.specs.Clear.{ClearPart}
use Rattle.keyring_file.specs.declared.clear.ClearItem.{ClearItem}
use Rattle.keyring_seal.proofs.RisingLemmas.{rising_by_number, rising_by_place}
use Rattle.collection_store.specs.CollectionReading.{Opens, content_at}
use Rattle.collection_store.specs.Resting.{undone}
use Rattle.collection_store.specs.Storing.{IsReady, finished_open, parts_of, undone_open}
use Rattle.collection_store.specs.declared.candidate.Frame.{Frame}
use Rattle.collection_store.specs.declared.holding.Open.{Open}
use Rattle.collection_store.specs.declared.preparing.Prepared.{Prepared}
use Rattle.collection_store.specs.State.{CollectionState, HasItems, HasMostItems, IsById, IsHeld, IsKept, IsOpened, IsOpenedFile, Parts, Shows, by_id, has_image, held_of, ids_of, items_of, most_items, rows_with, shown_image, shown_of, told_after, unhashed, without_hashes}
use Rattle.keyring_file.specs.ClearText.{HasClear}

-- a collection whose file was read
pub kept_loaded : (file : File) (clear told : ClearPart) → IsKnownFile (λ bytes. HasClear bytes clear) file → told ≡ by_id clear → IsKept file told None None
kept_loaded (Known None) clear told has e = absurd has
kept_loaded (Known (Some bytes)) clear told has e = record { shows = (clear, has, e); shown_next = refl; opens = tt }
kept_loaded (Doubt old new) clear told has e = absurd has

-- a collection that gets locked shows what it showed
pub kept_locked : (file : File) (told : ClearPart) (newer : Option ClearPart) (parts : Option Parts) → IsKept file told newer parts → IsKept file (shown_of told parts) newer None
kept_locked file told newer parts kept = record { shows = kept.shows; shown_next = kept.shown_next; opens = tt }

-- the file of a collection that is unlocked is there
pub opened_there : (file : File) (told : ClearPart) (parts : Parts) → IsOpenedFile file told (Some parts) → HasFile file
opened_there (Known None) told parts opened = absurd opened
opened_there (Known (Some bytes)) told parts opened = tt
opened_there (Doubt old new) told parts opened = absurd opened

-- the kept items are those that the file opens to
pub held_opens : (file : File) (told : ClearPart) (parts : Option Parts) → IsOpenedFile file told parts → IsHeld file (held_of told parts)
held_opens file told None opened = tt
held_opens (Known None) told (Some parts) opened = absurd opened
held_opens (Known (Some bytes)) told (Some parts) opened = opened.opens
held_opens (Doubt old new) told (Some parts) opened = absurd opened

-- after a doubt ended, what was found is shown
pub kept_found : (found : Found) (file : File) (told : ClearPart) (newer : Option ClearPart) (parts : Option Parts) → (IsKnown file → ⊥) → IsKept file told newer parts → IsKept (found_file found file) (told_after found told newer) None parts
kept_found found (Known image) told newer parts doubt kept = absurd (doubt tt)
kept_found found (Doubt old new) told newer (Some parts) doubt kept = absurd kept.opens
kept_found Old (Doubt None new) told newer None doubt kept = record { shows = tt; shown_next = refl; opens = tt }
kept_found Old (Doubt (Some bytes) new) told newer None doubt kept = record { shows = kept.shows; shown_next = refl; opens = tt }
kept_found Other (Doubt None new) told newer None doubt kept = record { shows = tt; shown_next = refl; opens = tt }
kept_found Other (Doubt (Some bytes) new) told newer None doubt kept = record { shows = kept.shows; shown_next = refl; opens = tt }
kept_found New (Doubt None new) told None None doubt kept = record { shows = kept.shows; shown_next = refl; opens = tt }
kept_found New (Doubt None new) told (Some part) None doubt kept = let never = kept.shown_next in absurd cc
kept_found New (Doubt (Some bytes) None) told newer None doubt kept = record { shows = tt; shown_next = refl; opens = tt }
kept_found New (Doubt (Some bytes) (Some image)) told None None doubt kept = let never = kept.shown_next.2 in absurd cc
kept_found New (Doubt (Some bytes) (Some image)) told (Some part) None doubt kept =
    let is = kept.shown_next.2 in
    let same : kept.shown_next.0 ≡ part = cc in
    record { shows = subst (λ t. Shows (Some image) t) same kept.shown_next.1; shown_next = refl; opens = tt }

-- a collection in doubt is locked
pub doubt_locked : (file : File) (told : ClearPart) (parts : Option Parts) → (IsKnown file → ⊥) → IsOpenedFile file told parts → parts ≡ None
doubt_locked (Known image) told parts doubt opened = absurd (doubt tt)
doubt_locked (Doubt old new) told None doubt opened = refl
doubt_locked (Doubt old new) told (Some parts) doubt opened = absurd opened

-- an unlocked collection has a file
pub held_there : (file : File) (told : ClearPart) (parts : Option Parts) → IsOpenedFile file told parts → IsSome (held_of told parts) → HasFile file
held_there file told None opens held = absurd cc
held_there file told (Some parts) opens held = opened_there file told parts opens

-- the file of a collection was removed, or may have been
pub kept_removed : (result : Result (Unit {0}) RemoveFault) (file new : File) (told : ClearPart) (newer : Option ClearPart) (parts : Option Parts) → IsKept file told newer parts → HasFile file → OnOk result (new ≡ Known None) → OnErr result (new ≡ Doubt (old_image file) None)
    → IsKept new (shown_of told parts) newer None
kept_removed (Ok x) (Known None) new told newer parts kept there removed unsure = absurd there
kept_removed (Ok x) (Known (Some bytes)) new told newer parts kept there removed unsure = rw removed (record { shows = tt; shown_next = kept.shown_next; opens = tt })
kept_removed (Ok x) (Doubt old next) new told newer parts kept there removed unsure = absurd there
kept_removed (Err e) (Known None) new told newer parts kept there removed unsure = absurd there
kept_removed (Err e) (Known (Some bytes)) new told newer parts kept there removed unsure = rw unsure (record { shows = kept.shows; shown_next = kept.shown_next; opens = tt })
kept_removed (Err e) (Doubt old next) new told newer parts kept there removed unsure = absurd there

-- the content types don't depend on the hashes
by_test : (b : Bool) (item : ClearItem) (one other : Option ClearItem) → option_map (λ (x : ClearItem). x.content) one ≡ option_map (λ (x : ClearItem). x.content) other
    → option_map (λ (x : ClearItem). x.content) (cond b (Some (unhashed item)) one) ≡ option_map (λ (x : ClearItem). x.content) (cond b (Some item) other)
by_test true item one other e = refl
by_test false item one other e = e

content_unhashed : (id : ℕ) (items : List ClearItem) → content_at id (map unhashed items) ≡ content_at id items
content_unhashed id [] = refl
content_unhashed id (item ∷ more) = by_test (nat_eq item.id.0 id) item _ _ (content_unhashed id more)

same_contents : (id : ℕ) (told shown : ClearPart) → without_hashes told ≡ without_hashes shown → content_at id told.items ≡ content_at id shown.items
same_contents id told shown same =
    sym (content_unhashed id told.items) ∙ ap (λ (t : ClearPart). content_at id t.items) same ∙ content_unhashed id shown.items

-- an unlocked collection shows the content types of its items
pub contents_shown : (id : ℕ) (file : File) (told : ClearPart) (parts : Option Parts) → IsOpenedFile file told parts → content_at id told.items ≡ content_at id (shown_of told parts).items
contents_shown id file told None opened = refl
contents_shown id (Known None) told (Some parts) opened = absurd opened
contents_shown id (Known (Some bytes)) told (Some parts) opened = same_contents id told (shown_of told (Some parts)) opened.same
contents_shown id (Doubt old new) told (Some parts) opened = absurd opened

-- ---- unlocking

-- the image of a known file
pub there_image : (file : File) → HasFile file → None ≡ old_image file → ⊥
there_image (Known None) there e = absurd there
there_image (Known (Some bytes)) there e = absurd cc
there_image (Doubt old new) there e = absurd there

-- a fact of the image's bytes is a fact of the known file
pub known_so : (Holds : List ℕ → Type 0) (file : File) (bytes : List ℕ) → HasFile file → Some bytes ≡ old_image file → Holds bytes → IsKnownFile Holds file
known_so Holds (Known None) bytes there e h = absurd there
known_so Holds (Known (Some image)) bytes there e h = let same : bytes ≡ image = cc in subst Holds same h
known_so Holds (Doubt old new) bytes there e h = absurd there

-- the image's bytes have a clear part
pub shown_part : (file : File) (clear : ClearPart) (bytes : List ℕ) → HasFile file → Some bytes ≡ old_image file → Shows (shown_image file) clear → (part : ClearPart) × HasClear bytes part × (clear ≡ by_id part)
shown_part (Known None) clear bytes there e shows = absurd there
shown_part (Known (Some image)) clear bytes there e shows = let same : image ≡ bytes = cc in subst (λ b. (part : ClearPart) × HasClear b part × (clear ≡ by_id part)) same shows
shown_part (Doubt old new) clear bytes there e shows = absurd there

-- a locked collection keeps nothing
none_held : (told : ClearPart) (parts : Option Parts) → held_of told parts ≡ None → shown_of told parts ≡ told
none_held told None e = refl
none_held told (Some parts) e = absurd cc

-- a locked collection has the clear part of its file
pub told_sorted : (file : File) (told : ClearPart) (newer : Option ClearPart) (parts : Option Parts) (bytes : List ℕ) → IsKept file told newer parts → held_of told parts ≡ None → HasFile file → Some bytes ≡ old_image file → HasSorted bytes told
told_sorted file told newer parts bytes kept locked there is = shown_part file told bytes there is (subst (λ t. Shows (shown_image file) t) (none_held told parts locked) kept.shows)

-- the clear part of the file is shown, whether it is kept apart or has the same items as the one with the items' own hashes
pub shown_opened : (key vector : List ℕ) (items : Rows) (made written : ClearPart) (kept : Option ClearPart) → without_hashes made ≡ without_hashes written → IfSome kept (λ part. part ≡ written) → IfNone kept (made.items ≡ written.items)
    → shown_of made (Some (key, vector, items, kept)) ≡ written
shown_opened key vector items made written None alike apart same = λ i. record (alike i) { items = same i }
shown_opened key vector items made written (Some part) alike apart same = apart

-- a locked collection shows the clear part that its file opens to
pub opened_shown : Spelled → (file : File) (told : ClearPart) (newer : Option ClearPart) (parts : Option Parts) (bytes key vector : List ℕ) (content : Content)
    → IsKept file told newer parts → held_of told parts ≡ None → HasFile file → Some bytes ≡ old_image file → opened bytes key vector ≡ Ok content → told ≡ by_id content.clear
opened_shown spelled file told newer parts bytes key vector content kept locked there is opens =
    let before : Shows (shown_image file) told = subst (λ t. Shows (shown_image file) t) (none_held told parts locked) kept.shows in
    let part = shown_part file told bytes there is before in
    let own : content.clear ≡ part.0 = opened_clear spelled bytes key vector part.0 content part.1 opens in
    part.2 ∙ sym (ap (λ (t : ClearPart). by_id t) own)

-- what opening its file gives is what is shown, except for the hashes
alike_shown : Spelled → (file : File) (told : ClearPart) (newer : Option ClearPart) (parts : Option Parts) (bytes key vector : List ℕ) (content : Content) (made : ClearPart)
    → IsKept file told newer parts → held_of told parts ≡ None → HasFile file → Some bytes ≡ old_image file → opened bytes key vector ≡ Ok content → without_hashes made ≡ without_hashes (by_id content.clear) → without_hashes made ≡ without_hashes told
alike_shown spelled file told newer parts bytes key vector content made kept locked there is opens same =
    same ∙ ap (λ (t : ClearPart). without_hashes t) (sym (opened_shown spelled file told newer parts bytes key vector content kept locked there is opens))

-- a locked collection is unlocked
pub kept_unlocked : Spelled → (file : File) (told : ClearPart) (newer : Option ClearPart) (parts : Option Parts) (bytes key vector : List ℕ) (content : Content) (made : ClearPart) (items : Rows) (written : Option ClearPart)
    → IsKept file told newer parts → held_of told parts ≡ None → HasFile file → Some bytes ≡ old_image file → opened bytes key vector ≡ Ok content → rows_with made items ≡ arranged_rows content → ids_of made.items ≡ keys_of items
    → AllByRecursion (λ (row : Row). row.0.hashed ≡ hashes row.1.attributes) (rows_with made items) → without_hashes made ≡ without_hashes (by_id content.clear) → IfSome written (λ part. part ≡ told) → IfNone written (made.items ≡ told.items)
    → IsKept file made newer (Some (key, vector, items, written))
kept_unlocked spelled file told newer parts bytes key vector content made items written kept locked there is opens rows ids hashed same apart alike =
    let before : Shows (shown_image file) told = subst (λ t. Shows (shown_image file) t) (none_held told parts locked) kept.shows in
    let unhashed : without_hashes made ≡ without_hashes told = alike_shown spelled file told newer parts bytes key vector content made kept locked there is opens same in
    let shown : shown_of made (Some (key, vector, items, written)) ≡ told = shown_opened key vector items made told written unhashed apart alike in
    record {
      shows = subst (λ t. Shows (shown_image file) t) (sym shown) before;
      shown_next = kept.shown_next;
      opens = known_so (λ b. IsOpened b made key vector items (shown_of made (Some (key, vector, items, written)))) file bytes there is (record {
        opens = record { content = content; opens = opens; arranged = rows };
        ids = ids;
        hashed = hashed;
        same = unhashed ∙ ap (λ (t : ClearPart). without_hashes t) (sym shown);
      });
    }

-- its state is the old one with what is kept
pub state_unlocked : {S : Type 0} → Spelled → (slot : S) (file : File) (told : ClearPart) (newer : Option ClearPart) (parts : Option Parts) (bytes key vector : List ℕ) (content : Content) (made : ClearPart) (items : Rows) (written : Option ClearPart)
    → IsKept file told newer parts → held_of told parts ≡ None → HasFile file → Some bytes ≡ old_image file → opened bytes key vector ≡ Ok content → rows_with made items ≡ arranged_rows content
    → without_hashes made ≡ without_hashes (by_id content.clear) → IfSome written (λ part. part ≡ told) → IfNone written (made.items ≡ told.items)
    → ◌≡◌ {A = CollectionState S} (record { slot = slot; file = file; clear = shown_of made (Some (key, vector, items, written)); other = newer; held = Some (record { key = key; vector = vector; rows = rows_with made items }) }) (record { slot = slot; file = file; clear = shown_of told parts; other = newer; held = Some (record { key = key; vector = vector; rows = arranged_rows content }) })
state_unlocked spelled slot file told newer parts bytes key vector content made items written kept locked there is opens rows same apart alike =
    let unhashed : without_hashes made ≡ without_hashes told = alike_shown spelled file told newer parts bytes key vector content made kept locked there is opens same in
    let clear : shown_of made (Some (key, vector, items, written)) ≡ shown_of told parts = shown_opened key vector items made told written unhashed apart alike ∙ sym (none_held told parts locked) in
    λ i. record { slot = slot; file = file; clear = clear i; other = newer; held = Some (record { key = key; vector = vector; rows = rows i }) }

-- what the file opens to
pub opens_so : (Holds : Content → Type 0) (bytes key vector : List ℕ) (content : Content) → opened bytes key vector ≡ Ok content → Holds content → Opens bytes key vector Holds
opens_so Holds bytes key vector content e h = rw e (h, refl)

-- ---- creating

-- a new collection that was stored
pub kept_created : (image key vector : List ℕ) (told : ClearPart) → told.items ≡ [] → HasClear image (of_rows told []).clear → opened image key vector ≡ Ok (of_rows told []) → IsKept (Known (Some image)) told None (Some (key, vector, [], None))
unfolding by_number
kept_created image key vector told none has opens = record {
  shows = ((of_rows told []).clear, has, ap (λ (t : List ClearItem). record told { items = t }) none);
  shown_next = refl;
  opens = record {
    opens = record { content = of_rows told []; opens = opens; arranged = rw none refl };
    ids = rw none refl;
    hashed = rw none tt;
    same = refl;
  };
}

-- a new collection that may have been stored or not
pub kept_perhaps : (image : List ℕ) (told : ClearPart) → told.items ≡ [] → HasClear image (of_rows told []).clear → IsKept (Doubt None (Some image)) told None None
unfolding by_number
kept_perhaps image told none has = record {
  shows = ((of_rows told []).clear, has, ap (λ (t : List ClearItem). record told { items = t }) none);
  shown_next = refl;
  opens = tt;
}

-- ---- how many items an image has

same_count : (told shown : ClearPart) → without_hashes told ≡ without_hashes shown → length told.items ≡ length shown.items
same_count told shown same =
    sym (length-map told.items unhashed) ∙ ap (λ (t : ClearPart). length t.items) same ∙ length-map shown.items unhashed

count_shown : (file : File) (told : ClearPart) (parts : Option Parts) → IsOpenedFile file told parts → length told.items ≡ length (shown_of told parts).items
count_shown file told None opens = refl
count_shown (Known None) told (Some parts) opens = absurd opens
count_shown (Known (Some bytes)) told (Some parts) opens = same_count told (shown_of told (Some parts)) opens.same
count_shown (Doubt old new) told (Some parts) opens = absurd opens

counted : (image : Image) (clear : ClearPart) → is_some image ≡ true → Shows image clear → HasItems image (length clear.items)
counted None clear there shows = absurd cc
counted (Some bytes) clear there (part, has, e) = (part, has, ap (λ (t : ClearPart). length t.items) e)

-- if no image is a file
pub no_items : (file : File) → has_image file ≡ false → HasMostItems file 0
no_items (Known None) e = refl
no_items (Known (Some bytes)) e = absurd cc
no_items (Doubt None None) e = (0, 0, refl, refl, refl)
no_items (Doubt None (Some bytes)) e = absurd cc
no_items (Doubt (Some bytes) new) e = absurd cc

-- if one image is a file, or the file is known
pub items_of_one : (file : File) (told : ClearPart) (parts : Option Parts) → has_image file ≡ true → IsKept file told None parts → HasMostItems file (length told.items)
items_of_one (Known None) told parts e kept = absurd cc
items_of_one (Known (Some bytes)) told parts e kept = rw (count_shown (Known (Some bytes)) told parts kept.opens) (counted (Some bytes) (shown_of told parts) refl kept.shows)
items_of_one (Doubt old new) told (Some parts) e kept = absurd kept.opens
items_of_one (Doubt None None) told None e kept = absurd cc
items_of_one (Doubt None (Some bytes)) told None e kept = (0, length told.items, refl, counted (Some bytes) told refl kept.shows, omega arith)
items_of_one (Doubt (Some bytes) None) told None e kept = (length told.items, 0, counted (Some bytes) told refl kept.shows, refl, omega arith)
items_of_one (Doubt (Some bytes) (Some image)) told None e kept = let never = kept.shown_next.2 in absurd cc

-- if both images are files
pub items_of_both : (file : File) (told part : ClearPart) (parts : Option Parts) → IsKept file told (Some part) parts → HasMostItems file (max (length told.items) (length part.items))
items_of_both (Known image) told part parts kept = let never = kept.shown_next in absurd cc
items_of_both (Doubt old new) told part (Some parts) kept = absurd kept.opens
items_of_both (Doubt None new) told part None kept = let never = kept.shown_next in absurd cc
items_of_both (Doubt (Some bytes) None) told part None kept = let never = kept.shown_next in absurd cc
items_of_both (Doubt (Some bytes) (Some image)) told part None kept =
    let is = kept.shown_next.2 in
    let same : kept.shown_next.0 ≡ part = cc in
    (length told.items, length part.items, counted (Some bytes) told refl kept.shows, subst (λ (t : ClearPart). HasItems (Some image) (length t.items)) same (counted (Some image) kept.shown_next.0 refl kept.shown_next.1), refl)

-- the same number by what is shown
pub most_shown : (file : File) (told : ClearPart) (newer : Option ClearPart) (parts : Option Parts) (count : ℕ) → IsOpenedFile file told parts → has_image file ≡ true → count ≡ max (length told.items) (items_of newer) → count ≡ most_items file (shown_of told parts) newer
most_shown file told newer parts count opens there is =
    is ∙ ap (λ n. max n (items_of newer)) (count_shown file told parts opens) ∙ sym (ap (λ b. cond b (max (length (shown_of told parts).items) (items_of newer)) 0) there)

pub none_shown : (file : File) (told : ClearPart) (newer : Option ClearPart) (parts : Option Parts) → has_image file ≡ false → 0 ≡ most_items file (shown_of told parts) newer
none_shown file told newer parts none = sym (ap (λ b. cond b (max (length (shown_of told parts).items) (items_of newer)) 0) none)

-- ---- storing

by_id_same : (clear : ClearPart) → IsById clear → by_id clear ≡ clear
by_id_same clear rising = ap (λ (t : List ClearItem). record clear { items = t }) (rising_by_number (λ (item : ClearItem). item.id.0) clear.items (rising_by_place (λ (item : ClearItem). item.id.0) clear.items rising))

-- the clear part that is shown doesn't depend on the items
pub shown_by : (told : ClearPart) (key vector : List ℕ) (items more : Rows) (written : Option ClearPart) → shown_of told (Some (key, vector, items, written)) ≡ shown_of told (Some (key, vector, more, written))
shown_by told key vector items more None = refl
shown_by told key vector items more (Some part) = refl

-- there is no other clear part while a collection is unlocked
pub newer_none : (file : File) (told : ClearPart) (newer : Option ClearPart) (parts : Parts) → IsKept file told newer (Some parts) → newer ≡ None
newer_none (Known image) told newer parts kept = kept.shown_next
newer_none (Doubt old new) told newer parts kept = absurd kept.opens

-- a change is stored
pub kept_stored : (frame : Frame) (ready : Prepared) (file new : File) (told : ClearPart) (newer : Option ClearPart) (was now : Option Open) → IsKept file told newer (option_map parts_of (option_map (undone_open ready.rest) was)) → IsSome was → IfSome was (IsReady frame ready) → IsById ready.next
    → new ≡ Known (Some ready.image) → now ≡ option_map (finished_open frame ready.rest) was → IsKept new ready.next newer (option_map parts_of now)
kept_stored frame ready file new told newer None now kept some is rising stored held = absurd cc
kept_stored frame ready file new told newer (Some was) now kept some is rising stored held =
    let none = newer_none file told newer _ kept in
    let opened : IsKept (Known (Some ready.image)) ready.next None (option_map parts_of (Some (finished_open frame ready.rest was))) = record {
      shows = (ready.next, is.has, sym (by_id_same ready.next rising));
      shown_next = refl;
      opens = is.opened;
    } in
    rw (stored, none, held) opened

-- a change is given up
pub kept_undone : (ready : Prepared) (file new : File) (told : ClearPart) (newer : Option ClearPart) (was now : Option Open) → IsKept file told newer (option_map parts_of (option_map (undone_open ready.rest) was)) → new ≡ file → now ≡ option_map (undone_open ready.rest) was → IsKept new told newer (option_map parts_of now)
kept_undone ready file new told newer was now kept same held = rw (same, held) kept

unsure_at : (ready : Prepared) (file : File) (told shown : ClearPart) (newer : Option ClearPart) (parts : Parts) → IsKept file told newer (Some parts) → HasClear ready.image ready.next → IsById ready.next → shown ≡ shown_of told (Some parts) → IsKept (Doubt (old_image file) (Some ready.image)) shown (Some ready.next) None
unsure_at ready (Known None) told shown newer parts kept has rising same = absurd kept.opens
unsure_at ready (Known (Some bytes)) told shown newer parts kept has rising same = record {
  shows = rw same kept.shows;
  shown_next = (ready.next, (ready.next, has, sym (by_id_same ready.next rising)), refl);
  opens = tt;
}
unsure_at ready (Doubt old new) told shown newer parts kept has rising same = absurd kept.opens

-- a change may be stored or not
pub kept_unsure : (frame : Frame) (ready : Prepared) (file new : File) (told shown : ClearPart) (newer : Option ClearPart) (was now : Option Open) → IsKept file told newer (option_map parts_of (option_map (undone_open ready.rest) was)) → IsSome was → IfSome was (IsReady frame ready) → IsById ready.next
    → new ≡ Doubt (old_image file) (Some ready.image) → shown ≡ shown_of told (option_map parts_of was) → now ≡ None → IsKept new shown (Some ready.next) (option_map parts_of now)
kept_unsure frame ready file new told shown newer None now kept some is rising unsure same none = absurd cc
kept_unsure frame ready file new told shown newer (Some was) now kept some is rising unsure same none =
    let also = same ∙ shown_by told was.key was.vector was.items (undone ready.rest was.items) was.written in
    rw (unsure, none) (unsure_at ready file told shown newer (parts_of (undone_open ready.rest was)) kept is.has rising also)

-- the file of an unlocked collection is known
pub known_kept : (ready : Prepared) (file : File) (told : ClearPart) (newer : Option ClearPart) (was : Option Open) → IsKept file told newer (option_map parts_of (option_map (undone_open ready.rest) was)) → IsSome was → IsKnown file
known_kept ready file told newer None kept some = absurd cc
known_kept ready (Known image) told newer (Some was) kept some = tt
known_kept ready (Doubt old new) told newer (Some was) kept some = absurd kept.opens
