-- A disk on which nothing is, of a folder that isn't honest.
use Rattle.std.proofs.Common.{◌≡◌, ℕ, ◌<◌, Bool, true, false, IfNone, IfSome, IsTrue, List, [], length, Option, None, refl, sym, ap, ◌∙◌, subst, arith}
use Rattle.std.specs.Cmp.Lexicographic.{slice_cmp}
use Rattle.std.specs.List.{Contains}
use Rattle.std.specs.List.Sorted.{IsStrictlySortedBy}
use Rattle.std.specs.Option.{option_or}
use Rattle.std.specs.Ordering.{nat_cmp}
use Rattle.kr_base.specs.Attributes.{value_at}
use Rattle.kr_outside.specs.RenameDisk.{Image, Only}
use Rattle.service_answers.specs.folder_store.specs.Loads.{IsFree}
use Rattle.service_answers.specs.folder_store.specs.Names.{IsRingName}
use Rattle.service_answers.specs.service_disk.specs.Making.{AreFree}
use Rattle.service_answers.specs.service_tables.specs.Disk.{DiskState}
use Rattle.service_answers.specs.service_tables.specs.Opened.{Contents}
use Rattle.service_answers.specs.service_tables.specs.Slots.{slot_at}
use Rattle.service_answers.specs.service_tables.specs.Sound.{AreSoundContents}
use Rattle.service_machine.specs.Rows.{no_contents}

none-contained : (names : List (List ℕ)) (name : List ℕ) → names ≡ [] → Contains names name → ⊥
none-contained names name none has = let long : length names ≡ 0 = ap length none in omega (arith, long, has.1)

-- a collection can be made under each stem
pub free-nothing : {F S : Type 0} (folder_honest : F → Bool) (images : F → List ℕ → Image) (folder_leaves : F → List ℕ → Image → Type 0) (made : F → List (List ℕ)) (is_honest : S → Bool)
    (may_leave : S → Image → Type 0) (disk : DiskState F S) → folder_honest disk.folder ≡ false → made disk.folder ≡ [] → disk.slots ≡ [] → disk.spare ≡ []
    → AreFree folder_honest images folder_leaves made is_honest may_leave disk
free-nothing {F} {S} folder_honest images folder_leaves made is_honest may_leave disk silent fresh slotless spareless stem unused =
    let none : slot_at stem disk ≡ None = λ i. option_or (value_at stem (slotless i)) (value_at stem (spareless i)) in
    record {
      unmade = subst (λ (o : Option S). IfNone o ((name : List ℕ) → IsRingName name stem → IsFree (folder_honest disk.folder) images folder_leaves made disk.folder name)) (sym none)
          (λ name named. record {
            slotless = λ has. none-contained (made disk.folder) name fresh has;
            absent = λ honest. absurd (let no : true ≡ false = sym honest ∙ silent in cc);
            crash = λ honest. absurd (let no : true ≡ false = sym honest ∙ silent in cc);
          });
      kept = subst (λ (o : Option S). IfSome o (λ slot. IsTrue (is_honest slot) → Only None (may_leave slot))) (sym none) tt;
    }

pub none-in-order : IsStrictlySortedBy (slice_cmp nat_cmp) []
unfolding IsStrictlySortedBy
none-in-order = tt

-- what is there is sound
pub sound-nothing : (contents : Contents) → contents ≡ no_contents → AreSoundContents contents
sound-nothing contents is = subst AreSoundContents (sym is) (record {
  collections = record { ordered = none-in-order; each = tt };
  aliases = tt;
  certain = refl;
  known = tt;
  stems = record { ordered = none-in-order; taken = tt };
})
