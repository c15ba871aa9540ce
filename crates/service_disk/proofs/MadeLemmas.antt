-- A collection that was to be made: what its slot became, and that the stems that aren't used stay free.
use Rattle.std.proofs.Common.{◌≡◌, inl, inr, ℕ, Bool, true, false, ◌&&◌, IsTrue, IfNone, IfSome, List, ◌∷◌, Contains, Option, Some, None, refl, sym, ap, subst, ◌∙◌}
use Rattle.std.specs.List.{list_all}
use Rattle.std.specs.Option.{option_or}
use Rattle.kr_base.specs.Attributes.{is_name, value_at}
use Rattle.kr_base.proofs.OrderedLemmas.{name-test}
use Rattle.kr_outside.specs.RenameDisk.{Image, Only}
use Rattle.folder_store.specs.Loads.{IsFree}
use Rattle.folder_store.specs.Names.{IsRingName}
use Rattle.folder_store.proofs.OpenedLemmas.{cons_cases}
use Rattle.folder_store.proofs.StemLemmas.{one_stem}
use Rattle.service_tables.specs.collection_table.specs.Entries.{inserted}
use Rattle.service_tables.specs.collection_table.specs.Rows.{Rows}
use Rattle.stem_choice.specs.UsedStems.{with_stem}
use Rattle.service_tables.specs.Disk.{DiskState}
use Rattle.service_tables.specs.Slots.{StoresIn, file_at, slot_at}
use Rattle.service_tables.specs.declared.fate.Fate.TheVariants.{Store}
use Rattle.service_tables.specs.declared.fate.StoreFate.{StoreFate}
use Rattle.service_disk.specs.Making.{AreFree, IsFreeStem, KeepsFolder, KeepsSlot, MakesAt, MakesSlot, is_steady_with}
use Rattle.service_disk.specs.Taking.{RefusesSlot, TakesSlot}
use Rattle.service_disk.proofs.InsertedLemmas.{all-inserted, value-beside, value-inserted}
use Rattle.service_disk.proofs.TakingLemmas.{itself, names-one}

module _ {F S : Type 0} (folder_honest folder_steady : F → Bool) (folder_faults : F → ℕ) (images : F → List ℕ → Image) (folder_leaves : F → List ℕ → Image → Type 0)
    (made : F → List (List ℕ)) (is_honest is_steady : S → Bool) (faults : S → ℕ) (left_since : S → ℕ → Image → Type 0) (may_leave : S → Image → Type 0) (stem : List ℕ) where
  abbrev Keeps : F → F → Type 0
  Keeps old new = KeepsFolder folder_honest folder_steady folder_faults images folder_leaves made old new

  abbrev Takes : S → DiskState F S → DiskState F S → Type 0
  Takes slot old new = TakesSlot folder_honest folder_steady folder_faults images folder_leaves made is_honest is_steady faults left_since may_leave stem slot old new

  abbrev Makes : S → DiskState F S → DiskState F S → Type 0
  Makes slot old new = MakesSlot folder_honest folder_steady made is_honest is_steady faults left_since stem slot old new

  abbrev IsFreeIn : List ℕ → DiskState F S → Type 0
  IsFreeIn other disk = IsFreeStem folder_honest images folder_leaves made is_honest may_leave other disk

  abbrev Free : DiskState F S → Type 0
  Free disk = AreFree folder_honest images folder_leaves made is_honest may_leave disk

  abbrev steady_with : DiskState F S → Bool
  steady_with disk = is_steady_with folder_steady is_steady disk

  -- the slot is put among the others, which are as before
  pub record Puts (slot : S) (mid new : DiskState F S) : Type 0 where
    pub kept : slot_at stem new ≡ Some slot
    pub others : (other : List ℕ) → is_name stem other ≡ false → slot_at other new ≡ slot_at other mid
    pub all_steady : steady_with new ≡ (is_steady slot && steady_with mid)
    pub folder : new.folder ≡ mid.folder

  -- ---- the names of other stems

  other-name : (other name : List ℕ) (was : S) (old mid : DiskState F S) → is_name stem other ≡ false → IsRingName name other → Takes was old mid → ¬ (Contains (made old.folder) name) → ¬ (Contains (made mid.folder) name)
  other-name other name was old mid apart named takes off = elim takes.one [
    | inl kept ↦ subst (λ l. ¬ (Contains l name)) (sym kept.1) off
    | inr new ↦ λ has.
        elim (cons_cases new.name (made old.folder) name (subst (λ l. Contains l name) new.alone has)) [
          | inl same ↦
              let stems : stem ≡ other = one_stem new.name stem other new.named (subst (λ n. IsRingName n other) same named) in
              let no : true ≡ false = sym (ap (is_name stem) (sym stems) ∙ itself stem) ∙ apart in
              cc
          | inr before ↦ off before
        ]
  ]

  free-still : (name : List ℕ) (old new : F) → Keeps old new → ¬ (Contains (made new) name) → IsFree (folder_honest old) images folder_leaves made old name → IsFree (folder_honest new) images folder_leaves made new name
  free-still name old new keeps off free = record {
    slotless = off;
    absent = λ honest. (keeps.stays (sym keeps.honest ∙ honest)).same name off ∙ free.absent (sym keeps.honest ∙ honest);
    crash = λ honest left leaves. free.crash (sym keeps.honest ∙ honest) left ((keeps.stays (sym keeps.honest ∙ honest)).crash name off left leaves);
  }

  none-more : (o : Option S) (P Q : Type 0) → (P → Q) → IfNone o P → IfNone o Q
  none-more None P Q more is = more is
  none-more (Some x) P Q more is = tt

  abbrev Named : List ℕ → F → Type 0
  Named other folder = (name : List ℕ) → IsRingName name other → IsFree (folder_honest folder) images folder_leaves made folder name

  abbrev Empty : S → Type 0
  Empty slot = IsTrue (is_honest slot) → Only None (may_leave slot)

  -- a stem whose slot and whose name are as before
  free-as : (other : List ℕ) (old new : DiskState F S) → slot_at other new ≡ slot_at other old → (Named other old.folder → Named other new.folder) → IsFreeIn other old → IsFreeIn other new
  free-as other old new same more free = record {
    unmade = none-more (slot_at other new) (Named other old.folder) (Named other new.folder) more (subst (λ o. IfNone o (Named other old.folder)) (sym same) free.unmade);
    kept = subst (λ o. IfSome o Empty) (sym same) free.kept;
  }

  -- another stem is as free as before
  free-other : (other : List ℕ) (was slot : S) (old mid new : DiskState F S) → is_name stem other ≡ false → Takes was old mid → Puts slot mid new → IsFreeIn other old → IsFreeIn other new
  free-other other was slot old mid new apart takes puts free =
      free-as other old new (puts.others other apart ∙ takes.others other apart)
      (λ named. subst (Named other) (sym puts.folder)
      (λ name ring. free-still name old.folder mid.folder takes.folder (other-name other name was old mid apart ring takes (named name ring).slotless) (named name ring)))
      free

  -- ---- all stems that aren't used

  pub frees-used : (was slot : S) (old mid new : DiskState F S) → ((other : List ℕ) → ¬ (Contains (with_stem stem old.used) other) → (¬ (Contains old.used other)) × (is_name stem other ≡ false))
      → Takes was old mid → Puts slot mid new → new.used ≡ with_stem stem old.used → Free old → Free new
  frees-used was slot old mid new unused takes puts used free = λ other off.
      let both = unused other (subst (λ l. ¬ (Contains l other)) used off) in
      free-other other was slot old mid new both.1 takes puts (free other both.0)

  pub frees-back : (was : S) (old mid new : DiskState F S) → Takes was old mid → Puts was mid new → new.used ≡ old.used → Free old → Free new
  frees-back was old mid new takes puts used free = λ other off.
      let before : ¬ (Contains old.used other) = subst (λ l. ¬ (Contains l other)) used off in
      let step : (b : Bool) → is_name stem other ≡ b → IsFreeIn other new =
      elim [
        | true ↦ λ is.
            let kept : slot_at other new ≡ Some was = ap (λ s. slot_at s new) (sym (names-one stem other is)) ∙ puts.kept in
            record {
              unmade = subst (λ o. IfNone o (Named other new.folder)) (sym kept) tt;
              kept = subst (λ o. IfSome o Empty) (sym kept) takes.empty;
            }
        | false ↦ λ apart. free-other other was was old mid new apart takes puts (free other before)
      ] in
      step (is_name stem other) refl

  pub frees-none : (old new : DiskState F S) → RefusesSlot folder_honest folder_steady folder_faults images folder_leaves made old new → Free old → Free new
  frees-none old new refuses free = λ other off.
      let before : ¬ (Contains old.used other) = subst (λ l. ¬ (Contains l other)) (ap (λ (d : DiskState F S). d.used) refuses.rest) off in
      free-as other old new (ap (slot_at other) refuses.rest)
      (λ named name ring. free-still name old.folder new.folder refuses.folder (subst (λ l. ¬ (Contains l name)) (sym refuses.unmade) (named name ring).slotless) (named name ring))
      (free other before)

  -- ---- the slot is put among the others

  turned : (t f a b : Bool) → (f && ((t && a) && b)) ≡ (t && (f && (a && b)))
  turned true f a b = refl
  turned false true a b = refl
  turned false false a b = refl

  behind : (t f a b : Bool) → (f && (a && (t && b))) ≡ (t && (f && (a && b)))
  behind true f a b = refl
  behind false true true b = refl
  behind false true false b = refl
  behind false false a b = refl

  abbrev all : List (List ℕ × S) → Bool
  all slots = list_all (λ (slot : List ℕ × S). is_steady slot.1) slots

  pub puts-listed : (slot : S) (mid new : DiskState F S) (used : List (List ℕ)) → value_at stem mid.slots ≡ None → new ≡ record mid { slots = inserted stem slot mid.slots; used = used } → Puts slot mid new
  puts-listed slot mid new used none is = record {
    kept = ap (slot_at stem) is ∙ ap (λ o. option_or o (value_at stem mid.spare)) (value-inserted stem slot mid.slots);
    others = λ other apart. ap (slot_at other) is ∙ ap (λ o. option_or o (value_at other mid.spare)) (value-beside stem other slot mid.slots apart);
    all_steady = ap (λ (d : DiskState F S). steady_with d) is
        ∙ ap (λ b. folder_steady mid.folder && (b && all mid.spare)) (all-inserted stem is_steady slot mid.slots none)
        ∙ turned (is_steady slot) (folder_steady mid.folder) (all mid.slots) (all mid.spare);
    folder = ap (λ (d : DiskState F S). d.folder) is;
  }

  pub puts-kept : (slot : S) (mid new : DiskState F S) (used : List (List ℕ)) → value_at stem mid.slots ≡ None → new ≡ record mid { spare = (stem, slot) ∷ mid.spare; used = used } → Puts slot mid new
  puts-kept slot mid new used none is =
      let first : value_at stem ((stem, slot) ∷ mid.spare) ≡ Some slot = rw (itself stem) refl in
      record {
        kept = ap (slot_at stem) is ∙ (λ i. option_or (none i) (first i));
        others = λ other apart.
            let off : is_name other stem ≡ false = name-test other stem ∙ apart in
            let rest : value_at other ((stem, slot) ∷ mid.spare) ≡ value_at other mid.spare = rw off refl in
            ap (slot_at other) is ∙ ap (λ o. option_or (value_at other mid.slots) o) rest;
        all_steady = ap (λ (d : DiskState F S). steady_with d) is ∙ behind (is_steady slot) (folder_steady mid.folder) (all mid.slots) (all mid.spare);
        folder = ap (λ (d : DiskState F S). d.folder) is;
      }

  -- ---- one making

  makes-after : (was : S) (old mid new : DiskState F S) → new.folder ≡ mid.folder → Makes was old mid → Makes was old new
  makes-after was old mid new same makes = record {
    none = makes.none;
    fresh = makes.fresh;
    name = makes.name;
    named = makes.named;
    unmade = makes.unmade;
    alone = ap made same ∙ makes.alone;
  }

  module _ (moment : S → ℕ) where
    pub makes-at : (some : StoreFate) (before after : Rows) (was is : S) (old mid new : DiskState F S) → Takes was old mid → Puts is mid new
        → StoresIn is_honest is_steady faults moment left_since may_leave (Store some) (file_at stem before) (file_at stem after) was is → new.used ≡ with_stem stem old.used
        → new.left_alone ≡ old.left_alone → new.aliases ≡ old.aliases
        → MakesAt folder_honest folder_steady folder_faults images folder_leaves made is_honest is_steady faults moment left_since may_leave stem some before after old new
    makes-at some before after was is old mid new takes puts stores used left aliases = record {
      was = was;
      is = is;
      slot = record {
        one = elim takes.one [
          | inl kept ↦ inl (kept.0, ap made puts.folder ∙ kept.1)
          | inr makes ↦ inr (makes-after was old mid new puts.folder makes)
        ];
        folder = subst (λ (f : F). Keeps old.folder f) (sym puts.folder) takes.folder;
        others = λ other apart. puts.others other apart ∙ takes.others other apart;
        all_steady = puts.all_steady ∙ ap (λ b. b && steady_with mid) stores.steady.same ∙ takes.all_steady;
      };
      kept = puts.kept;
      stores = stores;
      used = used;
      rest = λ i. record new { left_alone = left i; aliases = aliases i };
    }

    -- a collection was put among the others
    pub makes-listed : (some : StoreFate) (before after : Rows) (was is : S) (old start mid new : DiskState F S) → start ≡ old → value_at stem old.slots ≡ None → Takes was start mid
        → new ≡ record mid { slots = inserted stem is mid.slots; used = with_stem stem mid.used }
        → StoresIn is_honest is_steady faults moment left_since may_leave (Store some) (file_at stem before) (file_at stem after) was is
        → MakesAt folder_honest folder_steady folder_faults images folder_leaves made is_honest is_steady faults moment left_since may_leave stem some before after old new
    makes-listed some before after was is old start mid new begins none taken made stores =
        let takes : Takes was old mid = subst (λ (d : DiskState F S). Takes was d mid) begins taken in
        let puts = puts-listed is mid new (with_stem stem mid.used) (ap (λ (d : DiskState F S). value_at stem d.slots) takes.rest ∙ none) made in
        makes-at some before after was is old mid new takes puts stores
        (ap (λ (d : DiskState F S). d.used) made ∙ ap (λ (d : DiskState F S). with_stem stem d.used) takes.rest)
        (ap (λ (d : DiskState F S). d.left_alone) made ∙ ap (λ (d : DiskState F S). d.left_alone) takes.rest)
        (ap (λ (d : DiskState F S). d.aliases) made ∙ ap (λ (d : DiskState F S). d.aliases) takes.rest)

    -- its cell is kept, since nothing was stored
    pub makes-kept : (some : StoreFate) (before after : Rows) (was is : S) (old start mid new : DiskState F S) → start ≡ old → value_at stem old.slots ≡ None → Takes was start mid
        → new ≡ record mid { spare = (stem, is) ∷ mid.spare; used = with_stem stem mid.used }
        → StoresIn is_honest is_steady faults moment left_since may_leave (Store some) (file_at stem before) (file_at stem after) was is
        → MakesAt folder_honest folder_steady folder_faults images folder_leaves made is_honest is_steady faults moment left_since may_leave stem some before after old new
    makes-kept some before after was is old start mid new begins none taken made stores =
        let takes : Takes was old mid = subst (λ (d : DiskState F S). Takes was d mid) begins taken in
        let puts = puts-kept is mid new (with_stem stem mid.used) (ap (λ (d : DiskState F S). value_at stem d.slots) takes.rest ∙ none) made in
        makes-at some before after was is old mid new takes puts stores
        (ap (λ (d : DiskState F S). d.used) made ∙ ap (λ (d : DiskState F S). with_stem stem d.used) takes.rest)
        (ap (λ (d : DiskState F S). d.left_alone) made ∙ ap (λ (d : DiskState F S). d.left_alone) takes.rest)
        (ap (λ (d : DiskState F S). d.aliases) made ∙ ap (λ (d : DiskState F S). d.aliases) takes.rest)

  abbrev WereUnused : List (List ℕ) → Type 0
  WereUnused used = (other : List ℕ) → ¬ (Contains (with_stem stem used) other) → (¬ (Contains used other)) × (is_name stem other ≡ false)

  pub frees-listed : (was is : S) (old start mid new : DiskState F S) → start ≡ old → value_at stem old.slots ≡ None → Takes was start mid → WereUnused mid.used
      → new ≡ record mid { slots = inserted stem is mid.slots; used = with_stem stem mid.used } → Free old → Free new
  frees-listed was is old start mid new begins none taken unused made free =
      let takes : Takes was old mid = subst (λ (d : DiskState F S). Takes was d mid) begins taken in
      let puts = puts-listed is mid new (with_stem stem mid.used) (ap (λ (d : DiskState F S). value_at stem d.slots) takes.rest ∙ none) made in
      frees-used was is old mid new (subst WereUnused (ap (λ (d : DiskState F S). d.used) takes.rest) unused) takes puts
      (ap (λ (d : DiskState F S). d.used) made ∙ ap (λ (d : DiskState F S). with_stem stem d.used) takes.rest) free

  pub frees-kept : (was is : S) (old start mid new : DiskState F S) → start ≡ old → value_at stem old.slots ≡ None → Takes was start mid → WereUnused mid.used
      → new ≡ record mid { spare = (stem, is) ∷ mid.spare; used = with_stem stem mid.used } → Free old → Free new
  frees-kept was is old start mid new begins none taken unused made free =
      let takes : Takes was old mid = subst (λ (d : DiskState F S). Takes was d mid) begins taken in
      let puts = puts-kept is mid new (with_stem stem mid.used) (ap (λ (d : DiskState F S). value_at stem d.slots) takes.rest ∙ none) made in
      frees-used was is old mid new (subst WereUnused (ap (λ (d : DiskState F S). d.used) takes.rest) unused) takes puts
      (ap (λ (d : DiskState F S). d.used) made ∙ ap (λ (d : DiskState F S). with_stem stem d.used) takes.rest) free

  -- ---- a making that was refused

  abbrev KeepsAt : DiskState F S → DiskState F S → Type 0
  KeepsAt old new = KeepsSlot folder_honest folder_steady folder_faults images folder_leaves made is_honest is_steady faults left_since stem old new

  pub keeps-back : (was : S) (old mid new : DiskState F S) → Takes was old mid → Puts was mid new → new ≡ record mid { spare = new.spare } → KeepsAt old new
  keeps-back was old mid new takes puts is = record {
    slot = elim takes.one [
      | inl kept ↦ inl (puts.kept ∙ sym kept.0, ap made puts.folder ∙ kept.1)
      | inr makes ↦ inr (was, puts.kept, makes-after was old mid new puts.folder makes)
    ];
    folder = subst (λ (f : F). Keeps old.folder f) (sym puts.folder) takes.folder;
    others = λ other apart. puts.others other apart ∙ takes.others other apart;
    all_steady = puts.all_steady ∙ takes.all_steady;
    rest = is ∙ ap (λ (d : DiskState F S). record d { spare = new.spare }) takes.rest ∙ (λ i. record old { folder = (sym puts.folder) i; spare = new.spare });
  }

  pub keeps-none : (old new : DiskState F S) → RefusesSlot folder_honest folder_steady folder_faults images folder_leaves made old new → KeepsAt old new
  keeps-none old new refuses = record {
    slot = inl (ap (slot_at stem) refuses.rest, refuses.unmade);
    folder = refuses.folder;
    others = λ other apart. ap (slot_at other) refuses.rest;
    all_steady = ap (λ (d : DiskState F S). steady_with d) refuses.rest ∙ ap (λ b. b && (all old.slots && all old.spare)) refuses.folder.steady;
    rest = refuses.rest ∙ (λ i. record old { folder = new.folder; spare = (ap (λ (d : DiskState F S). d.spare) (sym refuses.rest)) i });
  }

  pub keeps-same : (old new : DiskState F S) → new ≡ old → KeepsAt old new
  keeps-same old new same = subst (λ (d : DiskState F S). KeepsAt old d) (sym same) (record {
    slot = inl (refl, refl);
    folder = record {
      stays = λ honest. record { same = λ name off. refl; crash = λ name off image left. left };
      honest = refl;
      steady = refl;
      count = refl;
    };
    others = λ other apart. refl;
    all_steady = refl;
    rest = refl;
  })

  -- the cell is kept as it was
  pub keeps-again : (was : S) (old start mid new : DiskState F S) → start ≡ old → value_at stem old.slots ≡ None → Takes was start mid → new ≡ record mid { spare = (stem, was) ∷ mid.spare } → KeepsAt old new
  keeps-again was old start mid new begins none taken made =
      let takes : Takes was old mid = subst (λ (d : DiskState F S). Takes was d mid) begins taken in
      let puts = puts-kept was mid new mid.used (ap (λ (d : DiskState F S). value_at stem d.slots) takes.rest ∙ none) made in
      keeps-back was old mid new takes puts (made ∙ (λ i. record mid { spare = (ap (λ (d : DiskState F S). d.spare) (sym made)) i }))

  pub frees-again : (was : S) (old start mid new : DiskState F S) → start ≡ old → value_at stem old.slots ≡ None → Takes was start mid → new ≡ record mid { spare = (stem, was) ∷ mid.spare } → Free old → Free new
  frees-again was old start mid new begins none taken made free =
      let takes : Takes was old mid = subst (λ (d : DiskState F S). Takes was d mid) begins taken in
      let puts = puts-kept was mid new mid.used (ap (λ (d : DiskState F S). value_at stem d.slots) takes.rest ∙ none) made in
      frees-back was old mid new takes puts (ap (λ (d : DiskState F S). d.used) made ∙ ap (λ (d : DiskState F S). d.used) takes.rest) free

  pub frees-refused : (old start new : DiskState F S) → start ≡ old → RefusesSlot folder_honest folder_steady folder_faults images folder_leaves made start new → Free old → Free new
  frees-refused old start new begins refuses free =
      frees-none old new (subst (λ (d : DiskState F S). RefusesSlot folder_honest folder_steady folder_faults images folder_leaves made d new) begins refuses) free

  pub frees-same : (old new : DiskState F S) → new ≡ old → Free old → Free new
  frees-same old new same free = subst Free (sym same) free
