-- One more slot is handed back in a crash.
use Rattle.std.proofs.Common.{◌≡◌, ◌⊎◌, ⊎_elim, inl, inr, ℕ, ◌/◌, List, [], ◌∷◌, ◌++◌, true, cond, nat_eq, refl, sym, ◌∙◌, subst}
use Rattle.std.specs.Cmp.Lexicographic.{pointwise}
use Rattle.std.proofs.lemmas.Slice.Eq.{bytes_eq-Decides}
use Rattle.kr_outside.specs.RenameDisk.{Image}
use Rattle.kr_memory_disk.specs.declared.files.MemoryFile.{MemoryFile}
use Rattle.kr_memory_disk.specs.Files.{image_in}
use Rattle.kr_memory_disk.specs.Folder.{HasSlot, SlotLeaves, IsCrashed, IsPicked, images_picked, with_image}
use Rattle.kr_memory_disk.specs.Slot.{SlotState, slot_may_leave, slot_left, slot_count_left}
use Rattle.kr_memory_disk.proofs.FileLemmas.{by_test}

leaves_more : (slots : List (List ℕ × SlotState)) (slot : List ℕ × SlotState) (name : List ℕ) (image : Image) → SlotLeaves slots name image → SlotLeaves (slots ++ slot ∷ []) name image
leaves_more [] slot name image leaves = absurd leaves
leaves_more (first ∷ slots) slot name image (inl here) = inl here
leaves_more (first ∷ slots) slot name image (inr later) = inr (leaves_more slots slot name image later)

leaves_last : (slots : List (List ℕ × SlotState)) (slot : List ℕ × SlotState) (image : Image) → slot_may_leave slot.1 image → SlotLeaves (slots ++ slot ∷ []) slot.0 image
leaves_last [] slot image leaves = inl (refl, leaves)
leaves_last (first ∷ slots) slot image leaves = inr (leaves_last slots slot image leaves)

none_more : (slots : List (List ℕ × SlotState)) (slot : List ℕ × SlotState) (name : List ℕ) → ¬ (HasSlot slots name) → ¬ (slot.0 ≡ name) → ¬ (HasSlot (slots ++ slot ∷ []) name)
none_more [] slot name before differs (inl same) = differs same
none_more [] slot name before differs (inr later) = absurd later
none_more (first ∷ slots) slot name before differs (inl same) = before (inl same)
none_more (first ∷ slots) slot name before differs (inr later) = none_more slots slot name (λ has. before (inr has)) differs later

pub IsCrashed-none : (files : List MemoryFile) → IsCrashed files [] files
IsCrashed-none files name = inr ((λ has. has), refl)

pub IsCrashed-more : (before between after : List MemoryFile) (slots : List (List ℕ × SlotState)) (slot : List ℕ × SlotState) (image : Image)
    → IsCrashed before slots between → slot_may_leave slot.1 image → image_in after slot.0 ≡ image
    → ((other : List ℕ) → ¬ (other ≡ slot.0) → image_in after other ≡ image_in between other)
    → IsCrashed before (slots ++ slot ∷ []) after
IsCrashed-more before between after slots slot image so_far leaves set others name = by_test
    (λ _. SlotLeaves (slots ++ slot ∷ []) name (image_in after name) ⊎ (¬ (HasSlot (slots ++ slot ∷ []) name) × (image_in after name ≡ image_in before name)))
    (pointwise nat_eq slot.0 name)
    (λ is. let same : slot.0 ≡ name = (bytes_eq-Decides slot.0 name).0 is in
    inl (subst (λ n. SlotLeaves (slots ++ slot ∷ []) n (image_in after n)) same
    (leaves_last slots slot (image_in after slot.0) (subst (λ i. slot_may_leave slot.1 i) (sym set) leaves))))
    (λ is. let differs : ¬ (slot.0 ≡ name) = λ same. let never : pointwise nat_eq slot.0 name ≡ true = (bytes_eq-Decides slot.0 name).1 same in cc in
    let kept : image_in after name ≡ image_in between name = others name (λ same. differs (sym same)) in
    ⊎_elim
    (λ (left : SlotLeaves slots name (image_in between name)). inl (leaves_more slots slot name (image_in after name) (subst (λ i. SlotLeaves slots name i) (sym kept) left)))
    (λ (rest : ¬ (HasSlot slots name) × (image_in between name ≡ image_in before name)). inr (none_more slots slot name rest.0 differs, kept ∙ rest.1))
    (so_far name))

-- what is left of the number after these slots
abbrev pub number_behind : List (List ℕ × SlotState) → ℕ → ℕ
number_behind [] choice = choice
number_behind (slot ∷ slots) choice = number_behind slots (choice / slot_count_left slot.1)

pub number_behind-more : (slots : List (List ℕ × SlotState)) (slot : List ℕ × SlotState) (choice : ℕ) → number_behind (slots ++ slot ∷ []) choice ≡ number_behind slots choice / slot_count_left slot.1
number_behind-more [] slot choice = refl
number_behind-more (first ∷ slots) slot choice = number_behind-more slots slot (choice / slot_count_left first.1)

images_picked-more : (images : List ℕ → Image) (slots : List (List ℕ × SlotState)) (slot : List ℕ × SlotState) (choice : ℕ) (name : List ℕ)
    → images_picked images (slots ++ slot ∷ []) choice name ≡ with_image (images_picked images slots choice) slot.0 (slot_left slot.1 (number_behind slots choice)) name
images_picked-more images [] slot choice name = refl
images_picked-more images (first ∷ slots) slot choice name =
    images_picked-more (with_image images first.0 (slot_left first.1 choice)) slots slot (choice / slot_count_left first.1) name

pub IsPicked-none : (files : List MemoryFile) (choice : ℕ) → IsPicked files [] choice files
IsPicked-none files choice name = refl

pub IsPicked-more : (before between after : List MemoryFile) (slots : List (List ℕ × SlotState)) (slot : List ℕ × SlotState) (choice : ℕ)
    → IsPicked before slots choice between → image_in after slot.0 ≡ slot_left slot.1 (number_behind slots choice)
    → ((other : List ℕ) → ¬ (other ≡ slot.0) → image_in after other ≡ image_in between other)
    → IsPicked before (slots ++ slot ∷ []) choice after
IsPicked-more before between after slots slot choice so_far set others name =
    here ∙ sym (images_picked-more (image_in before) slots slot choice name)
  where
    here : image_in after name ≡ with_image (images_picked (image_in before) slots choice) slot.0 (slot_left slot.1 (number_behind slots choice)) name
    here = by_test
        (λ t. (pointwise nat_eq slot.0 name ≡ t) → image_in after name ≡ cond t (slot_left slot.1 (number_behind slots choice)) (images_picked (image_in before) slots choice name))
        (pointwise nat_eq slot.0 name)
        (λ is _. subst (λ n. image_in after n ≡ slot_left slot.1 (number_behind slots choice)) ((bytes_eq-Decides slot.0 name).0 is) set)
        (λ is _. others name (λ same. let t : pointwise nat_eq slot.0 name ≡ true = (bytes_eq-Decides slot.0 name).1 (sym same) in cc) ∙ so_far name)
        refl
