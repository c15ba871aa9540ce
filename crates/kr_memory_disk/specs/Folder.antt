-- A folder in memory, and what it becomes in a crash.
use Rattle.std.specs.Prelude.{◌≡◌, ◌⊎◌, ◌/◌, ℕ, nat_eq, List, [], ◌∷◌, Contains, cond}
use Rattle.std.specs.Cmp.Lexicographic.{pointwise}
use Rattle.kr_outside.specs.RenameDisk.{Image}
use Rattle.kr_memory_disk.specs.declared.files.MemoryFile.{MemoryFile}
use Rattle.kr_memory_disk.specs.declared.folder.SlotPlan.{SlotPlan}
use Rattle.kr_memory_disk.specs.Files.{image_in}
use Rattle.kr_memory_disk.specs.Plan.{PlannedCalls, FailsNow, after_success, after_failure}
use Rattle.kr_memory_disk.specs.Slot.{SlotState, slot_may_leave, slot_left, slot_count_left}

-- a folder: its files, the plans of slots to come, the names of which slots were made, newest first, and the plan
-- of its own calls
pub record FolderState : Type 0 where
  pub files : List MemoryFile
  pub plans : List SlotPlan
  pub made : List (List ℕ)
  pub calls : PlannedCalls

-- the call shouldn't fail, and is counted
abbrev pub HasPassed : FolderState → FolderState → Type 0
HasPassed old new =
    ¬ (FailsNow old.calls) × (new ≡ record old { calls = after_success old.calls })

-- the call should fail, and is counted with its fault
abbrev pub HasFailed : FolderState → FolderState → Type 0
HasFailed old new = FailsNow old.calls × (new ≡ record old { calls = after_failure old.calls })

-- which calls of the slot of a name should fail, by the first plan of that name
abbrev pub failing_of : List SlotPlan → List ℕ → List ℕ
failing_of [] name = []
failing_of (plan ∷ plans) name =
    cond (pointwise nat_eq plan.name name) plan.failing.items (failing_of plans name)

-- and which of them the disk performs nevertheless
abbrev pub done_of : List SlotPlan → List ℕ → List ℕ
done_of [] name = []
done_of (plan ∷ plans) name =
    cond (pointwise nat_eq plan.name name) plan.done.items (done_of plans name)

-- one of the slots has this name
abbrev pub HasSlot : List (List ℕ × SlotState) → List ℕ → Type 0
HasSlot [] name = ⊥
HasSlot (slot ∷ slots) name = (slot.0 ≡ name) ⊎ HasSlot slots name

-- each name of which a slot was made has one of these slots
abbrev pub AreGivenBack : List (List ℕ) → List (List ℕ × SlotState) → Type 0
AreGivenBack made slots = (name : List ℕ) → Contains made name → HasSlot slots name

-- a crash may leave this image of a slot of this name
abbrev pub SlotLeaves : List (List ℕ × SlotState) → List ℕ → Image → Type 0
SlotLeaves [] name image = ⊥
SlotLeaves (slot ∷ slots) name image =
    ((slot.0 ≡ name) × slot_may_leave slot.1 image) ⊎ SlotLeaves slots name image

-- the images by name, with another one of this name
abbrev pub with_image : (List ℕ → Image) → List ℕ → Image → List ℕ → Image
with_image images name image other = cond (pointwise nat_eq name other) image (images other)

-- the images by name after a crash: of each slot in turn the number picks one for its name, and what is left of the
-- number, divided by how many there were, picks those of the slots after it
abbrev pub images_picked : (List ℕ → Image) → List (List ℕ × SlotState) → ℕ → List ℕ → Image
images_picked images [] choice = images
images_picked images (slot ∷ slots) choice =
    images_picked (with_image images slot.0 (slot_left slot.1 choice)) slots
    (choice / slot_count_left slot.1)

-- each name stands for the image picked by the number
abbrev pub IsPicked : List MemoryFile → List (List ℕ × SlotState) → ℕ → List MemoryFile → Type 0
IsPicked before slots choice after =
    (name : List ℕ) → image_in after name ≡ images_picked (image_in before) slots choice name

-- files before a crash and after it: each name stands for what the crash may leave of its slot, and a
-- name without a slot for what it stood for before
abbrev pub IsCrashed : List MemoryFile → List (List ℕ × SlotState) → List MemoryFile → Type 0
IsCrashed before slots after =
    (name : List ℕ) → SlotLeaves slots name (image_in after name)
    ⊎ (¬ (HasSlot slots name) × (image_in after name ≡ image_in before name))
