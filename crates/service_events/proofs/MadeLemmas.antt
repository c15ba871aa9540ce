-- The collections stay sound once the file of one of them was read again, and once one was made.
use Rattle.std.proofs.Common.{◌≡◌, ◌≤◌, ℕ, ◌^◌, ◌<◌, Bool, true, false, cond, IfSome, List, [], ◌∷◌, filter, length, Option, Some, None, refl, arith}
use Rattle.std.specs.Cmp.Lexicographic.{slice_cmp}
use Rattle.std.specs.List.{AllByRecursion}
use Rattle.std.specs.Ordering.{is_lt, nat_cmp}
use Rattle.std.proofs.lemmas.Bool.{leb-true}
use Rattle.kr_base.specs.Attributes.{is_name}
use Rattle.kr_base.specs.Stem.{IsStem}
use Rattle.kr_base.specs.Text.{IsText}
use Rattle.keyring_file.specs.Clear.{ClearPart}
use Rattle.keyring_file.specs.ClearText.{most_iterations}
use Rattle.replace_slot.specs.Cell.{File, Known, Doubt}
use Rattle.replace_slot.specs.Found.{found_file}
use Rattle.replace_slot.specs.declared.images.Found.{Found}
use Rattle.replace_slot.specs.declared.images.Found.TheVariants as image
use Rattle.key_derivation.specs.Kdf.{key_of, vector_of}
use Rattle.service_prompts.specs.keyring_seal.specs.Whole.{most_bytes}
use Rattle.service_prompts.specs.collection_store.specs.Outcomes.{most_for}
use Rattle.service_prompts.specs.collection_store.specs.State.{shown_image, told_after}
use Rattle.service_prompts.specs.collection_table.specs.Entries.{changed, inserted, without}
use Rattle.service_prompts.specs.collection_table.specs.Rows.{CollectionRow, Rows, room_in, stored}
use Rattle.service_prompts.specs.collection_table.proofs.EntryLemmas.{changed_in_order, inserted_in_order, order_kept}
use Rattle.service_disk.specs.Making.{Plan, content_of, file_of, has_room, perhaps_made, rows_made}
use Rattle.service_disk.specs.Resolving.{is_file, row_found, rows_found, rows_resolved}
use Rattle.service_prompts.specs.service_tables.specs.Slots.{file_at}
use Rattle.service_prompts.specs.service_tables.specs.Sound.{AreShown, AreSoundCollections, IsSoundCollection, ShowsItems, ShowsNewerItems}
use Rattle.service_prompts.specs.service_tables.specs.declared.fate.ReadFate.{ReadFate}
use Rattle.service_prompts.specs.service_tables.specs.declared.fate.ReadFate.TheVariants as read
use Rattle.service_prompts.specs.service_tables.specs.declared.fate.StoreFate.{StoreFate}
use Rattle.service_prompts.specs.service_tables.specs.declared.fate.StoreFate.TheVariants as fate
use Rattle.service_prompts.specs.service_tables.proofs.EachLemmas.{each-append, each-filter}
use Rattle.service_prompts.specs.service_tables.proofs.HeldLemmas.{ids-up}
use Rattle.service_prompts.specs.service_tables.proofs.StoredLemmas.{IsSoundContent, rows-content, stored-row}

-- ---- a file in doubt that was read again

told-shown : (found : Found) (clear : ClearPart) (other : Option ClearPart) → AreShown clear → IfSome other AreShown → AreShown (told_after found clear other)
told-shown image.Old clear other first second = first
told-shown image.New clear None first second = first
told-shown image.New clear (Some part) first second = second
told-shown image.Other clear other first second = first

-- what is shown of a file in doubt, once one of its images was found
found-shows : (found : Found) (file : File) (clear : ClearPart) (other : Option ClearPart) → ShowsItems (shown_image file) clear → ShowsNewerItems file other
    → ShowsItems (shown_image (found_file found file)) (told_after found clear other)
found-shows image.Old (Known image) clear other shows newer = shows
found-shows image.New (Known image) clear None shows newer = shows
found-shows image.New (Known image) clear (Some part) shows newer = absurd cc
found-shows image.Other (Known image) clear other shows newer = shows
found-shows image.Old (Doubt None new) clear other shows newer = tt
found-shows image.Old (Doubt (Some bytes) new) clear other shows newer = shows
found-shows image.Other (Doubt None new) clear other shows newer = tt
found-shows image.Other (Doubt (Some bytes) new) clear other shows newer = shows
found-shows image.New (Doubt None new) clear None shows newer = shows
found-shows image.New (Doubt None new) clear (Some part) shows newer = absurd cc
found-shows image.New (Doubt (Some bytes) None) clear other shows newer = tt
found-shows image.New (Doubt (Some bytes) (Some image)) clear None shows newer = absurd newer
found-shows image.New (Doubt (Some bytes) (Some image)) clear (Some part) shows newer = newer

found-newer : (found : Found) (file : File) → ShowsNewerItems (found_file found file) None
found-newer found (Known image) = refl
found-newer image.Old (Doubt old new) = refl
found-newer image.New (Doubt old new) = refl
found-newer image.Other (Doubt old new) = refl

each-found : (stem : List ℕ) (found : Found) (these : Rows) → AllByRecursion IsSoundCollection these → AllByRecursion IsSoundCollection (changed stem (row_found found) these)
each-found stem found [] all = tt
each-found stem found (row ∷ these) all =
    let new : IsSoundCollection (row.0, row_found found row.1) = record {
      stem = all.0.stem;
      shown = told-shown found row.1.clear row.1.other all.0.shown all.0.other;
      other = tt;
      held = tt;
      image = found-shows found row.1.file row.1.clear row.1.other all.0.image all.0.newer;
      newer = found-newer found row.1.file;
      holds = tt;
    } in
    let pass : (b : Bool) → IsSoundCollection (cond b (row.0, row_found found row.1) row) = elim [ true ↦ new | false ↦ all.0 ] in
    (pass (is_name stem row.0), each-found stem found these all.1)

sound-without : (stem : List ℕ) (these : Rows) → AreSoundCollections these → AreSoundCollections (without stem these)
sound-without stem these sound = record { ordered = order_kept _ these sound.ordered; each = each-filter IsSoundCollection _ these sound.each }

sound-found : (stem : List ℕ) (found : Found) (these : Rows) → AreSoundCollections these → AreSoundCollections (rows_found stem found these)
sound-found stem found these sound =
    let stays : AreSoundCollections (changed stem (row_found found) these) = record {
      ordered = changed_in_order stem (row_found found) these sound.ordered;
      each = each-found stem found these sound.each;
    } in
    let pass : (b : Bool) → AreSoundCollections (cond b (changed stem (row_found found) these) (without stem these)) = elim [ true ↦ stays | false ↦ sound-without stem these sound ] in
    pass (is_file found (file_at stem these))

-- a resolve of a collection's file, however it ended
pub sound-reread : (stem : List ℕ) (some : ReadFate) (these : Rows) → AreSoundCollections these → AreSoundCollections (rows_resolved stem some these)
sound-reread stem read.Old these sound = sound-found stem image.Old these sound
sound-reread stem read.New these sound = sound-found stem image.New these sound
sound-reread stem read.Other these sound = sound-without stem these sound
sound-reread stem read.ReadFailed these sound = sound

-- ---- a collection that was made

sound-inserted : (stem : List ℕ) (value : CollectionRow) (these : Rows) → IsSoundCollection (stem, value) → AreSoundCollections these → AreSoundCollections (inserted stem value these)
sound-inserted stem value these one sound = record {
  ordered = inserted_in_order stem value these sound.ordered;
  each = each-append IsSoundCollection (filter (λ entry. is_lt (slice_cmp nat_cmp entry.0 stem)) these) _ (each-filter IsSoundCollection _ these sound.each)
      (one, each-filter IsSoundCollection _ these sound.each);
}

module _ (stem : List ℕ) (plan : Plan) (small : plan.now < 2 ^ 64) (is : IsStem stem) (label : IsText plan.label) (eight : length plan.key.salt ≡ 8) (few : plan.key.iterations ≤ most_iterations) where
  shown-made : AreShown (content_of plan).clear
  shown-made = record {
    label = label;
    created = small;
    modified = small;
    flags = omega arith;
    timeout = omega arith;
    iterations = few;
    salt = eight;
    version = record { known = omega arith; plain = λ zero. tt };
    items = tt;
    ordered = ids-up [] tt;
  }

  content-made : IsSoundContent (content_of plan)
  content-made = rows-content (content_of plan).clear [] shown-made tt

  module _ (these : Rows) (room : has_room plan these ≡ true) where
    -- a collection that there is room for has a file that isn't too long
    within : length (file_of plan) ≤ most_bytes
    within =
        let long = length (file_of plan) in
        let most = most_for (room_in these) (Known None) in
        let under : most ≤ most_bytes = omega arith in
        let fits : long ≤ most = leb-true long most room in
        omega (arith, fits, under)

    -- a making of a collection, however it ended
    pub sound-made : (some : StoreFate) → AreSoundCollections these → AreSoundCollections (rows_made stem plan some these)
    sound-made fate.Stored sound =
        let value = stored (content_of plan) (key_of plan.key) (vector_of plan.key) in
        sound-inserted stem value these (stored-row stem (content_of plan) (key_of plan.key) (vector_of plan.key) is content-made within) sound
    sound-made fate.Before sound = sound
    sound-made fate.Unsure sound =
        let one : IsSoundCollection (stem, perhaps_made plan) = record {
          stem = is;
          shown = shown-made;
          other = tt;
          held = tt;
          image = content-made.image (key_of plan.key) (vector_of plan.key) within;
          newer = refl;
          holds = tt;
        } in
        sound-inserted stem (perhaps_made plan) these one sound
