-- A stem that isn't used: its slot is taken, and put among the others again, and the stems that aren't used stay free.
use Rattle.std.proofs.Common.{◌≡◌, ◌↔◌, ◌||◌, inl, inr, ℕ, Bool, true, false, ◌&&◌, IsTrue, IfNone, List, Contains, Option, Some, None, refl, sym, ap, subst, ◌∙◌}
use Rattle.std.specs.List.{list_all}
use Rattle.std.specs.Option.{is_some, option_map, option_or}
use Rattle.kr_base.specs.Attributes.{is_name, value_at}
use Rattle.kr_outside.specs.RenameDisk.{Image, Only}
use Rattle.folder_store.specs.Loads.{IsFree}
use Rattle.folder_store.specs.Names.{IsRingName}
use Rattle.service_tables.specs.collection_store.specs.State.{CollectionState}
use Rattle.service_tables.specs.collection_table.specs.Entries.{Entries, row_of, rows_of, slots_of}
use Rattle.service_tables.specs.collection_table.specs.Rows.{has}
use Rattle.service_tables.specs.collection_table.proofs.RowLemmas.{value-rows}
use Rattle.stem_choice.specs.UsedStems.{is_used, with_stem}
use Rattle.service_tables.specs.Disk.{DiskState}
use Rattle.service_tables.specs.Slots.{slot_at}
use Rattle.service_tables.proofs.DiskLemmas.{value-slots}
use Rattle.service_tables.proofs.SlotLemmas.{of-some}
use Rattle.service_disk.specs.Making.{IsFreeStem, KeepsFolder, is_steady_with}
use Rattle.service_disk.specs.Taking.{RefusesSlot, TakesNew, TakesSlot, without_first}
use Rattle.service_disk.proofs.TakingLemmas.{all-without, itself, names-apart, without-apart}

-- ---- what is at a stem without a collection

none-mapped : {V W : Type 0} (f : V → W) (o : Option V) → is_some o ≡ false → option_map f o ≡ None
none-mapped f None off = refl
none-mapped f (Some x) off = absurd (let no : true ≡ false = off in cc)

is_some-mapped : {V W : Type 0} (f : V → W) (o : Option V) → is_some (option_map f o) ≡ is_some o
is_some-mapped f None = refl
is_some-mapped f (Some x) = refl

module _ {S : Type 0} (stem : List ℕ) where
  pub no-slot : (entries : Entries S) → has stem (rows_of entries) ≡ false → value_at stem (slots_of entries) ≡ None
  no-slot entries off =
      value-slots stem entries
      ∙ none-mapped (λ (c : CollectionState S). c.slot) (value_at stem entries) (sym (ap is_some (value-rows stem entries) ∙ is_some-mapped row_of (value_at stem entries)) ∙ off)

or-true : (b : Bool) → (b || true) ≡ true
or-true true = refl
or-true false = refl

of-none : {A : Type 0} (P : Type 0) (o : Option A) → o ≡ None → IfNone o P → P
of-none P o is holds = subst (λ o. IfNone o P) is holds

moved : (t f a b : Bool) → (t && (f && (a && b))) ≡ (f && (a && (t && b)))
moved true true true b = refl
moved true true false b = refl
moved true false a b = refl
moved false true true b = refl
moved false true false b = refl
moved false false a b = refl

twice : (t r : Bool) → (t && (t && r)) ≡ (t && r)
twice true r = refl
twice false r = refl

-- ---- the stems that are used

pub were-unused : ((stem : List ℕ) (used : List (List ℕ)) → (is_used stem used ≡ true) ↔ Contains used stem)
    → ((stem other : List ℕ) (used : List (List ℕ)) → is_used other (with_stem stem used) ≡ (is_name other stem || is_used other used))
    → (stem other : List ℕ) (used : List (List ℕ)) → ¬ (Contains (with_stem stem used) other) → (¬ (Contains used other)) × (is_name stem other ≡ false)
were-unused listed adding stem other used off =
    let before : ¬ (Contains used other) = λ has. off ((listed other (with_stem stem used)).0 (adding stem other used ∙ ap (λ b. is_name other stem || b) ((listed other used).1 has) ∙ or-true (is_name other stem))) in
    let apart : is_name stem other ≡ false = names-apart stem other (λ same.
    off ((listed other (with_stem stem used)).0 (adding stem other used ∙ ap (λ b. b || is_used other used) (ap (λ s. is_name s stem) same ∙ itself stem)))) in
    (before, apart)

-- ---- a slot that is taken

module _ {F S : Type 0} (folder_honest folder_steady : F → Bool) (folder_faults : F → ℕ) (images : F → List ℕ → Image) (folder_leaves : F → List ℕ → Image → Type 0)
    (made : F → List (List ℕ)) (is_honest is_steady : S → Bool) (faults : S → ℕ) (left_since : S → ℕ → Image → Type 0) (may_leave : S → Image → Type 0) (stem : List ℕ) where
  abbrev Keeps : F → F → Type 0
  Keeps old new = KeepsFolder folder_honest folder_steady folder_faults images folder_leaves made old new

  abbrev Takes : S → DiskState F S → DiskState F S → Type 0
  Takes slot old new = TakesSlot folder_honest folder_steady folder_faults images folder_leaves made is_honest is_steady faults left_since may_leave stem slot old new

  abbrev steady_with : DiskState F S → Bool
  steady_with disk = is_steady_with folder_steady is_steady disk

  abbrev all : List (List ℕ × S) → Bool
  all slots = list_all (λ (slot : List ℕ × S). is_steady slot.1) slots

  keeps-itself : (folder : F) → Keeps folder folder
  keeps-itself folder = record {
    stays = λ honest. record { same = λ name off. refl; crash = λ name off image left. left };
    honest = refl;
    steady = refl;
    count = refl;
  }

  -- one that was kept
  pub takes-kept : (slot : S) (old new : DiskState F S) → IsFreeStem folder_honest images folder_leaves made is_honest may_leave stem old → value_at stem old.slots ≡ None → value_at stem old.spare ≡ Some slot
      → new ≡ record old { spare = without_first stem old.spare } → Takes slot old new
  takes-kept slot old new free unlisted there is =
      let found : slot_at stem old ≡ Some slot = ap (λ o. option_or o (value_at stem old.spare)) unlisted ∙ there in
      let same : new.folder ≡ old.folder = ap (λ (d : DiskState F S). d.folder) is in
      record {
        one = inl (found, ap made same);
        folder = subst (λ (f : F). Keeps old.folder f) (sym same) (keeps-itself old.folder);
        empty = of-some (λ slot. IsTrue (is_honest slot) → Only None (may_leave slot)) (slot_at stem old) slot found free.kept;
        others = λ other off. ap (slot_at other) is ∙ ap (λ o. option_or (value_at other old.slots) o) (without-apart stem other old.spare off);
        all_steady = ap (λ d. is_steady slot && steady_with d) is
            ∙ moved (is_steady slot) (folder_steady old.folder) (all old.slots) (all (without_first stem old.spare))
            ∙ ap (λ b. folder_steady old.folder && (all old.slots && b)) (all-without stem is_steady slot old.spare there);
        rest = is ∙ (λ i. record old { folder = (sym is i).folder; spare = (sym is i).spare });
      }

  -- the name of a stem without a slot
  pub name-free : (name : List ℕ) (old : DiskState F S) → IsFreeStem folder_honest images folder_leaves made is_honest may_leave stem old → value_at stem old.slots ≡ None → value_at stem old.spare ≡ None
      → IsRingName name stem → IsFree (folder_honest old.folder) images folder_leaves made old.folder name
  name-free name old free unlisted none named =
      of-none ((name : List ℕ) → IsRingName name stem → IsFree (folder_honest old.folder) images folder_leaves made old.folder name) (slot_at stem old)
      (ap (λ o. option_or o (value_at stem old.spare)) unlisted ∙ none) free.unmade name named

  -- one that was made
  pub takes-new : (name : List ℕ) (slot : S) (old new : DiskState F S) (folder : F) → value_at stem old.slots ≡ None → value_at stem old.spare ≡ None → IsRingName name stem → Keeps old.folder folder
      → TakesNew folder_honest folder_steady made is_honest is_steady faults left_since may_leave name slot old.folder folder → new ≡ record old { folder = folder } → Takes slot old new
  takes-new name slot old new folder unlisted none named keeps takes is =
      let same : new.folder ≡ folder = ap (λ (d : DiskState F S). d.folder) is in
      record {
        one = inr (record {
          none = ap (λ o. option_or o (value_at stem old.spare)) unlisted ∙ none;
          fresh = takes.fresh;
          name = name;
          named = named;
          unmade = takes.unmade;
          alone = ap made same ∙ takes.alone;
        });
        folder = subst (λ (f : F). Keeps old.folder f) (sym same) keeps;
        empty = takes.empty;
        others = λ other off. ap (slot_at other) is;
        all_steady = ap (λ d. is_steady slot && steady_with d) is
            ∙ (λ i. takes.fresh.as_steady i && (keeps.steady i && (all old.slots && all old.spare)))
            ∙ twice (folder_steady old.folder) (all old.slots && all old.spare);
        rest = is ∙ (λ i. record old { folder = (sym is i).folder; spare = (sym is i).spare });
      }

  pub refuses : (old new : DiskState F S) (folder : F) → Keeps old.folder folder → made folder ≡ made old.folder → new ≡ record old { folder = folder }
      → RefusesSlot folder_honest folder_steady folder_faults images folder_leaves made old new
  refuses old new folder keeps same is =
      let folders : new.folder ≡ folder = ap (λ (d : DiskState F S). d.folder) is in
      record {
        folder = subst (λ (f : F). Keeps old.folder f) (sym folders) keeps;
        unmade = ap made folders ∙ same;
        rest = is ∙ (λ i. record old { folder = (sym is i).folder });
      }
