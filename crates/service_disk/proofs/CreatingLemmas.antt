-- What the storing of a first file does to its slot.
use Rattle.std.proofs.Common.{◌≡◌, ◌⊎◌, inl, inr, ℕ, ◌≤◌, Bool, false, true, IsTrue, List, Option, Some, None, refl, sym, ap, subst, ◌∙◌}
use Rattle.std.specs.Option.{is_some, option_map_or}
use Rattle.kr_base.specs.Attributes.{value_at}
use Rattle.kr_outside.specs.Faults.{IsBelowLast}
use Rattle.kr_outside.specs.Moments.{LeavesOnly}
use Rattle.kr_outside.specs.RenameDisk.{Image}
use Rattle.kr_outside.specs.Slot.{KeepsNature}
use Rattle.service_tables.specs.keyring_seal.specs.Whole.{sealed}
use Rattle.service_tables.specs.keyring_seal.specs.declared.content.Content.{Content}
use Rattle.service_tables.specs.collection_store.specs.Outcomes.{IsOldOrSealed}
use Rattle.replace_slot.specs.Cell.{File, Known, Doubt, IsOneOf}
use Rattle.service_tables.specs.collection_table.specs.Entries.{inserted}
use Rattle.service_tables.specs.collection_table.specs.Rows.{CollectionRow, Rows, has}
use Rattle.service_tables.specs.Slots.{StoresIn, file_at}
use Rattle.service_tables.specs.declared.fate.Fate.TheVariants.{Store}
use Rattle.service_tables.specs.declared.fate.StoreFate.{StoreFate}
use Rattle.service_tables.specs.declared.fate.StoreFate.TheVariants as fate
use Rattle.service_tables.proofs.SlotLemmas.{leaves-weaker, no-rise}
use Rattle.service_disk.proofs.InsertedLemmas.{value-inserted}

-- ---- what is known of its file

none-there : (o : Option CollectionRow) → is_some o ≡ false → option_map_or (λ (row : CollectionRow). row.file) o (Known None) ≡ Known None
none-there None off = refl
none-there (Some row) off = absurd (let no : true ≡ false = off in cc)

pub file-before : (stem : List ℕ) (these : Rows) → has stem these ≡ false → file_at stem these ≡ Known None
file-before stem these off = none-there (value_at stem these) off

pub file-after : (stem : List ℕ) (row : CollectionRow) (these : Rows) → file_at stem (inserted stem row these) ≡ row.file
file-after stem row these = ap (λ o. option_map_or (λ (row : CollectionRow). row.file) o (Known None)) (value-inserted stem row these)

-- ---- its slot

module _ {S : Type 0} (is_honest is_steady : S → Bool) (faults moment : S → ℕ) (left_since : S → ℕ → Image → Type 0) (may_leave : S → Image → Type 0)
    (counts : (slot : S) (t : ℕ) (image : Image) → IsTrue (is_honest slot) → t ≤ moment slot → may_leave slot image → left_since slot t image)
    (below : (slot : S) → IsBelowLast (is_steady slot) (faults slot)) where
  abbrev Leaves : (Image → Type 0) → S → S → Type 0
  Leaves images old new = LeavesOnly moment left_since old new images

  abbrev Nature : Type 0 → S → S → Type 0
  Nature fault old new = KeepsNature is_honest is_steady faults fault old new

  abbrev In : StoreFate → File → File → S → S → Type 0
  In some before after was is = StoresIn is_honest is_steady faults moment left_since may_leave (Store some) before after was is

  -- none, or the file
  abbrev NoneOr : List ℕ → Image → Type 0
  NoneOr file image = (image ≡ None) ⊎ (image ≡ Some file)

  no-fault : (fault : Type 0) (was is : S) → fault → Nature fault was is → IsTrue (is_steady was) → ⊥
  no-fault fault was is at kept steady = no-rise (is_steady was) (is_steady is) (faults was) (faults is) kept.steady steady (below was steady) (kept.cause at)

  pub stores-made : (file : List ℕ) (fault : Type 0) (was is : S) → (IsTrue (is_honest was) → Leaves (NoneOr file) was is) → Nature fault was is → (IsTrue (is_honest is) → Leaves (λ image. image ≡ Some file) is is)
      → In fate.Stored (Known None) (Known (Some file)) was is
  stores-made file fault was is leaves kept now = record {
    any_moment = leaves;
    crash = λ honest left may. (now honest).each left (counts is (moment is) left honest (now honest).later may);
    honest = kept.honest;
    steady = kept.steady;
    cause = λ at. absurd at;
    never = λ steady at. at;
    one = λ honest other. absurd cc;
  }

  pub stores-before : (was is : S) → (IsTrue (is_honest was) → Leaves (λ image. image ≡ None) was is) → Nature (Unit {0}) was is → In fate.Before (Known None) (Known None) was is
  stores-before was is leaves kept = record {
    any_moment = λ honest. leaves-weaker moment left_since was is (λ image. image ≡ None) (λ image. (image ≡ None) ⊎ (image ≡ None)) (λ image none. inl none) (leaves honest);
    crash = λ honest left may. (leaves (sym kept.honest ∙ honest)).each left (counts is (moment was) left honest (leaves (sym kept.honest ∙ honest)).later may);
    honest = kept.honest;
    steady = kept.steady;
    cause = kept.cause;
    never = λ steady at. no-fault (Unit {0}) was is tt kept steady;
    one = λ honest other. absurd cc;
  }

  pub stores-unsure : (file : List ℕ) (was is : S) → (IsTrue (is_honest was) → Leaves (NoneOr file) was is) → Nature (Unit {0}) was is → In fate.Unsure (Known None) (Doubt None (Some file)) was is
  stores-unsure file was is leaves kept = record {
    any_moment = λ honest. leaves-weaker moment left_since was is (NoneOr file) (λ image. (image ≡ None) ⊎ IsOneOf (Doubt None (Some file)) image) (λ image one. inr one) (leaves honest);
    crash = λ honest left may. (leaves (sym kept.honest ∙ honest)).each left (counts is (moment was) left honest (leaves (sym kept.honest ∙ honest)).later may);
    honest = kept.honest;
    steady = kept.steady;
    cause = kept.cause;
    never = λ steady at. no-fault (Unit {0}) was is tt kept steady;
    one = λ honest other. absurd cc;
  }

  -- ---- what `create` says of it

  pub created-stored : (content : Content) (key vector : List ℕ) (before after : File) (fault : Type 0) (was is : S) → before ≡ Known None → after ≡ Known (Some (sealed content key vector))
      → (IsTrue (is_honest was) → Leaves (IsOldOrSealed before content key vector) was is) → Nature fault was is → (IsTrue (is_honest is) → Leaves (IsOneOf after) is is)
      → In fate.Stored (Known None) after was is
  created-stored content key vector before after fault was is none some leaves kept now =
      subst (λ (f : File). In fate.Stored (Known None) f was is) (sym some)
      (stores-made (sealed content key vector) fault was is
      (subst (λ (f : File). IsTrue (is_honest was) → Leaves (IsOldOrSealed f content key vector) was is) none leaves)
      kept
      (subst (λ (f : File). IsTrue (is_honest is) → Leaves (IsOneOf f) is is) some now))

  pub created-before : (before : File) (was is : S) → before ≡ Known None → (IsTrue (is_honest was) → Leaves (IsOneOf before) was is) → Nature (Unit {0}) was is → In fate.Before (Known None) (Known None) was is
  created-before before was is none leaves kept = stores-before was is (subst (λ (f : File). IsTrue (is_honest was) → Leaves (IsOneOf f) was is) none leaves) kept

  pub created-unsure : (content : Content) (key vector : List ℕ) (before after : File) (was is : S) → before ≡ Known None → after ≡ Doubt None (Some (sealed content key vector))
      → (IsTrue (is_honest was) → Leaves (IsOldOrSealed before content key vector) was is) → Nature (Unit {0}) was is → In fate.Unsure (Known None) after was is
  created-unsure content key vector before after was is none some leaves kept =
      subst (λ (f : File). In fate.Unsure (Known None) f was is) (sym some)
      (stores-unsure (sealed content key vector) was is (subst (λ (f : File). IsTrue (is_honest was) → Leaves (IsOldOrSealed f content key vector) was is) none leaves) kept)

  -- the same of the file of a stem
  pub stores-at : (stem : List ℕ) (some : StoreFate) (before after : Rows) (first last : File) (was is : S) → file_at stem before ≡ first → file_at stem after ≡ last → In some first last was is
      → In some (file_at stem before) (file_at stem after) was is
  stores-at stem some before after first last was is from to stores =
      subst (λ (f : File). In some f (file_at stem after) was is) (sym from) (subst (λ (f : File). In some first f was is) (sym to) stores)
