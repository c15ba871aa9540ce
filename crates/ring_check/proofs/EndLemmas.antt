-- What a check wrote, by how it ended.
use Rattle.std.proofs.Common.{◌≡◌, ◌⊎◌, ⊎_elim, inl, inr, ℕ, ◌<◌, Bool, true, false, IsTrue, List, [], Option, Result, Ok, Err, IfOk, OnErr, IsErrOf, refl, sym, ◌∙◌, ap, subst, arith}
use Rattle.std.specs.Io.KnownBytes.{Appends}
use Rattle.kr_outside.specs.Faults.{Rose, KeepsSteady, IsBelowLast, last_count}
use Rattle.kr_outside.specs.RenameDisk.{Image}
use Rattle.kr_outside.specs.Written.{AppendsFront}
use Rattle.ring_check.specs.Ending.{end_of}
use Rattle.ring_check.specs.Folder.{AreChecked, Reports, any_damaged, verdicts_on}
use Rattle.ring_check.specs.Lines.{report_of}
use Rattle.ring_check.specs.declared.ending.CheckEnd.TheVariants as end
use Rattle.ring_check.specs.declared.ending.Stop.{Stop}
use Rattle.ring_check.specs.declared.ending.Stop.TheVariants as stop

module _ (honest : Bool) (images : List ℕ → Image) (p : Option (List ℕ)) (old new : Option (List ℕ)) where
  abbrev Whole : Bool → Type 0
  Whole damaged = (files : List (List ℕ × List ℕ)) × AreChecked honest images files × Appends old new (report_of (verdicts_on p files)) × (damaged ≡ any_damaged (verdicts_on p files))

  abbrev Front : Type 0
  Front = ((files : List (List ℕ × List ℕ)) × AreChecked honest images files × AppendsFront old new (report_of (verdicts_on p files))) ⊎ Appends old new []

  pub reports_end : (r : Result Bool Stop) → IfOk r Whole → OnErr r Front → Reports honest images p (end_of r) old new
  reports_end (Ok true) whole front = inl (record { files = whole.0; are = whole.1; wrote = (whole.2, sym whole.3) })
  reports_end (Ok false) whole front = inl (record { files = whole.0; are = whole.1; wrote = (whole.2, sym whole.3) })
  reports_end (Err stop.Folder) whole front = ⊎_elim (λ some. inl (record { files = some.0; are = some.1; wrote = some.2 })) (λ none. inr none) front
  reports_end (Err stop.Write) whole front = ⊎_elim (λ some. inl (record { files = some.0; are = some.1; wrote = some.2 })) (λ none. inr none) front
  reports_end (Err stop.Memory) whole front = ⊎_elim (λ some. inl (record { files = some.0; are = some.1; wrote = some.2 })) (λ none. inr none) front

pub by_folder : (r : Result Bool Stop) → end_of r ≡ end.FolderFault → IsErrOf r stop.Folder
by_folder (Ok true) same = absurd (let never : ⊥ = cc in never)
by_folder (Ok false) same = absurd (let never : ⊥ = cc in never)
by_folder (Err stop.Folder) same = refl
by_folder (Err stop.Write) same = absurd (let never : ⊥ = cc in never)
by_folder (Err stop.Memory) same = absurd (let never : ⊥ = cc in never)

pub by_write : (r : Result Bool Stop) → end_of r ≡ end.WriteFault → IsErrOf r stop.Write
by_write (Ok true) same = absurd (let never : ⊥ = cc in never)
by_write (Ok false) same = absurd (let never : ⊥ = cc in never)
by_write (Err stop.Folder) same = absurd (let never : ⊥ = cc in never)
by_write (Err stop.Write) same = refl
by_write (Err stop.Memory) same = absurd (let never : ⊥ = cc in never)

-- a folder of which the count rose isn't steady
pub rose_unsteady : (steady is : Bool) (old new : ℕ) → IsBelowLast steady old → KeepsSteady steady is old new → Rose old new → ¬ (IsTrue steady)
rose_unsteady steady is old new below keeps rose s =
    let same : new ≡ old = keeps.still s in
    let least : old < last_count = below s in
    ⊎_elim (λ (up : old < new). omega (arith, same, up)) (λ (last : new ≡ last_count). omega (arith, same, least, last)) rose
