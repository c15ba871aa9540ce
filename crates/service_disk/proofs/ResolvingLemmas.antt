-- A collection in doubt whose file is read again: what is known of it, whether it stays, and what becomes of the others.
use Rattle.std.proofs.Common.{◌≡◌, ◌↔◌, ℕ, ◌<◌, Bool, true, false, cond, not, nat_lt, IsTrue, List, [], ◌∷◌, length, Some, None, refl, sym, ap, subst, ◌∙◌, arith}
use Rattle.std.specs.Option.{is_some, option_map, option_map_or}
use Rattle.std.proofs.lemmas.Bool.Decides.{nat_tests}
use Rattle.std.proofs.lemmas.List.{length-append}
use Rattle.kr_base.specs.Attributes.{is_name, value_at}
use Rattle.kr_outside.specs.RenameDisk.{Image}
use Rattle.keyring_file.specs.Clear.{ClearPart}
use Rattle.replace_slot.specs.Cell.{File, Known, Doubt, IsKnown, longest_of, old_image}
use Rattle.replace_slot.specs.Found.{found_file}
use Rattle.replace_slot.specs.declared.images.Found.{Found}
use Rattle.replace_slot.specs.declared.images.Found.TheVariants as image
use Rattle.service_tables.specs.collection_store.specs.State.{CollectionState, Shows, shown_image}
use Rattle.service_tables.specs.collection_table.specs.Entries.{Entries, changed, row_of, rows_of, without}
use Rattle.service_tables.specs.collection_table.specs.Rows.{CollectionRow, Rows}
use Rattle.service_tables.specs.collection_table.proofs.RowLemmas.{value-rows}
use Rattle.service_tables.specs.Aliases.{is_doubt}
use Rattle.service_tables.specs.Slots.{StoresIn, file_at}
use Rattle.service_tables.specs.declared.fate.Fate.TheVariants.{Read}
use Rattle.service_tables.specs.declared.fate.ReadFate.{ReadFate}
use Rattle.service_tables.specs.declared.fate.ReadFate.TheVariants as fate
use Rattle.service_tables.proofs.DiskLemmas.{file-there}
use Rattle.service_disk.specs.Resolving.{is_doubtful, row_found, row_resolved, rows_resolved, stays}

-- ---- what is known of the file

-- a test of whether the image is known
pub known-tested : (b : Bool) (file : File) → (IsTrue b ↔ IsKnown file) → not b ≡ is_doubt file
known-tested true (Known known) both = refl
known-tested true (Doubt old new) both = absurd (both.0 refl)
known-tested false (Known known) both = absurd (let no : false ≡ true = both.1 tt in cc)
known-tested false (Doubt old new) both = refl

pub doubt-unknown : (file : File) → is_doubt file ≡ true → IsKnown file → ⊥
doubt-unknown (Known known) is at = let no : false ≡ true = is in cc
doubt-unknown (Doubt old new) is at = at

-- an image that shows a clear part isn't empty
pub shown-long : (bytes : List ℕ) (clear : ClearPart) → Shows (Some bytes) clear → 0 < length bytes
shown-long bytes clear (part, has, same) =
    let text = has.1.text in
    let some = has.1.blocks.some in
    let whole = ap length text.parts ∙ length-append text.front text.back in
    let rest = text.is_second in
    let behind = ap length rest.parts ∙ length-append rest.front rest.back in
    let last = ap length rest.is_second in
    omega (arith, some, whole, behind, last)

above-zero : (n : ℕ) → 0 < n → nat_lt 0 n ≡ true
above-zero n more = grind (arith, nat_tests)

-- a known image is a file if it has a byte
pub file-tested : (file : File) (clear : ClearPart) (long : ℕ) → IsKnown file → Shows (shown_image file) clear → long ≡ longest_of file → nat_lt 0 long ≡ is_some (old_image file)
file-tested (Known None) clear long known shows is = ap (nat_lt 0) is
file-tested (Known (Some bytes)) clear long known shows is = above-zero long (subst (λ n. 0 < n) (sym is) (shown-long bytes clear shows))
file-tested (Doubt old new) clear long known shows is = absurd known

pub found-known : (found : Found) (file : File) → IsKnown (found_file found file)
found-known found (Known known) = tt
found-known image.Old (Doubt old new) = tt
found-known image.New (Doubt old new) = tt
found-known image.Other (Doubt old new) = tt

-- ---- the collection of a stem

module _ {S : Type 0} (stem : List ℕ) (entries : Entries S) where
  pub doubt-missing : None ≡ value_at stem entries → false ≡ is_doubtful stem (rows_of entries)
  doubt-missing none = sym (ap (λ o. is_doubt (option_map_or (λ (row : CollectionRow). row.file) o (Known None))) (value-rows stem entries ∙ ap (option_map row_of) (sym none)))

  pub doubt-there : (c : CollectionState S) → Some c ≡ value_at stem entries → is_doubt c.file ≡ is_doubtful stem (rows_of entries)
  doubt-there c there = sym (ap is_doubt (file-there stem entries c (sym there)))

-- ---- what becomes of the collections

same-values : {V : Type 0} (stem : List ℕ) (entries : List (List ℕ × V)) → changed stem (λ value. value) entries ≡ entries
same-values stem [] = refl
same-values stem (e ∷ more) =
    let pass : (b : Bool) → cond b (e.0, e.1) e ≡ e = elim [ true ↦ refl | false ↦ refl ] in
    λ i. pass (is_name stem e.0) i ∷ same-values stem more i

-- those that stay are changed
pub resolved-stays : (stem : List ℕ) (some : ReadFate) (these : Rows) → stays some (file_at stem these) ≡ true → rows_resolved stem some these ≡ changed stem (row_resolved some) these
resolved-stays stem fate.Old these is = ap (λ b. cond b (changed stem (row_found image.Old) these) (without stem these)) is
resolved-stays stem fate.New these is = ap (λ b. cond b (changed stem (row_found image.New) these) (without stem these)) is
resolved-stays stem fate.Other these is = absurd (let no : false ≡ true = is in cc)
resolved-stays stem fate.ReadFailed these is = sym (same-values stem these)

-- and those that go are taken away
pub resolved-goes : (stem : List ℕ) (some : ReadFate) (these : Rows) → stays some (file_at stem these) ≡ false → rows_resolved stem some these ≡ without stem these
resolved-goes stem fate.Old these is = ap (λ b. cond b (changed stem (row_found image.Old) these) (without stem these)) is
resolved-goes stem fate.New these is = ap (λ b. cond b (changed stem (row_found image.New) these) (without stem these)) is
resolved-goes stem fate.Other these is = refl
resolved-goes stem fate.ReadFailed these is = absurd (let no : true ≡ false = is in cc)

no-file : (file : File) → IsKnown file → is_some (old_image file) ≡ false → file ≡ Known None
no-file (Known None) known off = refl
no-file (Known (Some bytes)) known off = absurd (let no : true ≡ false = off in cc)
no-file (Doubt old new) known off = absurd known

-- ---- the slot of one that goes: its file isn't there, or no honest slot ends so

module _ {S : Type 0} (is_honest is_steady : S → Bool) (faults moment : S → ℕ) (left_since : S → ℕ → Image → Type 0) (may_leave : S → Image → Type 0) where
  abbrev In : ReadFate → File → File → S → S → Type 0
  In some before after was is = StoresIn is_honest is_steady faults moment left_since may_leave (Read some) before after was is

  pub never-other : (before after other : File) (was is : S) → In fate.Other before after was is → In fate.Other before other was is
  never-other before after other was is stores = record {
    any_moment = λ honest. absurd (stores.one honest refl);
    crash = λ honest. absurd (stores.one (sym stores.honest ∙ honest) refl);
    honest = stores.honest;
    steady = stores.steady;
    cause = stores.cause;
    never = stores.never;
    one = stores.one;
  }

  pub gone-stores : (some : ReadFate) (before after : File) (row : CollectionRow) (was is : S) → row.file ≡ before → after ≡ (row_resolved some row).file → stays some before ≡ false
      → In some before after was is → In some before (Known None) was is
  gone-stores fate.Old before after row was is at made off stores =
      subst (λ (f : File). In fate.Old before f was is) (made ∙ ap (found_file image.Old) at ∙ no-file (found_file image.Old before) (found-known image.Old before) off) stores
  gone-stores fate.New before after row was is at made off stores =
      subst (λ (f : File). In fate.New before f was is) (made ∙ ap (found_file image.New) at ∙ no-file (found_file image.New before) (found-known image.New before) off) stores
  gone-stores fate.Other before after row was is at made off stores = never-other before after (Known None) was is stores
  gone-stores fate.ReadFailed before after row was is at made off stores = absurd (let no : true ≡ false = off in cc)
