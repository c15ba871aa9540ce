-- The whole call: listing the names, going through them, and reading the file of the aliases.
use Rattle.std.proofs.Common.{◌≡◌, ◌⊎◌, ⊎_elim, inl, inr, ◌↔◌, ℕ, List, [], ◌∷◌, Bool, IsTrue, IsSome, None, Some, suc, arith, sym, ◌∙◌, ap, subst}
use Rattle.std.specs.List.{Contains}
use Rattle.std.specs.List.Sorted.{IsPermutation, IsSortedByKey, IsStrictlySortedBy}
use Rattle.std.specs.Ordering.{nat_cmp}
use Rattle.std.specs.Cmp.Lexicographic.{slice_cmp}
use Rattle.kr_base.specs.Attributes.{IsInOrder}
use Rattle.kr_outside.specs.Folder.{Stays}
use Rattle.kr_outside.specs.RenameDisk.{Image, Only}
use Rattle.alias_text.specs.Pairs.{longest, too_long, GivesAliases}
use Rattle.replace_slot.specs.Cell.{Known, IsKnownImage}
use Rattle.folder_store.specs.declared.found_aliases.FoundAliases.{FoundAliases}
use Rattle.folder_store.specs.declared.found_aliases.FoundAliases.TheVariants as found
use Rattle.folder_store.specs.declared.limits.Limits.{Limits}
use Rattle.folder_store.specs.declared.loading.Loaded.{Loaded}
use Rattle.folder_store.specs.Names.{aliases, IsRingName}
use Rattle.folder_store.specs.Opened.{Opens, Starts}
use Rattle.folder_store.specs.Loads.{Loads, opening_of}
use Rattle.folder_store.specs.Aliases.{AreFound, alias_slot, pairs_in}
use Rattle.folder_store.specs.Ring.{RingState, HandsBack, IsLonger, rows_of}
use Rattle.folder_store.specs.Walk.{OpeningState, plain, Walk}
use Rattle.folder_store.proofs.NameLemmas.{aliases_no_ring}
use Rattle.folder_store.proofs.OpenedLemmas.{AreTold, all_found, cons_cases, no_file}
use Rattle.folder_store.proofs.StemLemmas.{one_stem, used_stem, cells_by_stem, rows_by_stem}

-- the aliases that were found are those of the image
pub gives_found : {S : Type 0} (honest : Bool) (image : Image) (aliases : FoundAliases S) → AreFound honest image aliases → IsTrue honest → GivesAliases image (pairs_in aliases)
gives_found honest image (found.Read file) are is = subst (λ f. IsKnownImage (λ known. GivesAliases known file.pairs) f) (are.1 is).0 are.0
gives_found honest None (found.LeftAlone slot) are is = absurd (are is)
gives_found honest (Some bytes) (found.LeftAlone slot) are is = too_long bytes (are is)

-- what was found of an image was found of an equal one
pub found_same_aliases : {S : Type 0} (honest : Bool) (one two : Image) (aliases : FoundAliases S) → (IsTrue honest → one ≡ two) → AreFound honest one aliases → AreFound honest two aliases
found_same_aliases honest one two (found.Read file) same are = (are.0, λ is. ((are.1 is).0 ∙ ap Known (same is), subst (λ (i : Image). ¬ (IsLonger longest i)) (same is) (are.1 is).1))
found_same_aliases honest one two (found.LeftAlone slot) same are = λ is. subst (λ (i : Image). IsLonger longest i) (same is) (are is)

-- files that are among the images are among equal ones
told_same : (images other : List ℕ → Image) → ((name : List ℕ) → images name ≡ other name) → (files : List (List ℕ × List ℕ)) → AreTold images files → AreTold other files
told_same images other same [] told = tt
told_same images other same (file ∷ files) (here, told) = (sym (same file.0) ∙ here, told_same images other same files told)

module _ {F S : Type 0} (limits : Limits) (found : Image → S → Type 0) (honest : Bool) (images : F → List ℕ → Image) (may_leave : F → List ℕ → Image → Type 0) (made : F → List (List ℕ)) where
  -- no slot for `aliases` was made while the names were gone through
  pub off_way : (one two : F) (names : List (List ℕ)) (opening : OpeningState S) → Walk limits honest images may_leave made one two names (plain opening) → ¬ (Contains (made two) aliases)
  off_way one two names opening walk has = aliases_no_ring (walk.slots aliases has).1.0 (walk.slots aliases has).1.1

  -- what load_aliases requires
  pub aliases_alone : (one two : F) (names : List (List ℕ)) (opening : OpeningState S) → Walk limits honest images may_leave made one two names (plain opening)
      → IsTrue honest → ¬ (Contains (made two) aliases) × Only (images two aliases) (may_leave two aliases)
  aliases_alone one two names opening walk is =
      let off = off_way one two names opening walk in
      (off, subst (λ (i : Image). Only i (may_leave two aliases)) (sym (walk.same is aliases off)) (walk.settled is aliases off))

  pub Loads-made : (zero one two three : F) (names : List (List ℕ)) (opening : OpeningState S) (loaded : Loaded S)
      → IsPermutation opening.rings loaded.rings.items → IsSortedByKey (λ (r : RingState S). r.stem) (slice_cmp nat_cmp) loaded.rings.items
      → loaded.used.items ≡ opening.used → loaded.left_alone.items ≡ opening.left
      → IsStrictlySortedBy (slice_cmp nat_cmp) names
      → (IsTrue honest → (name : List ℕ) → Contains names name ↔ IsSome (images one name))
      → (IsTrue honest → (name : List ℕ) → images one name ≡ images zero name)
      → Walk limits honest images may_leave made one two names (plain opening)
      → HandsBack found (images zero) (made two) opening.rings opening.left
      → AreFound honest (images two aliases) loaded.aliases
      → found (images zero aliases) (alias_slot loaded.aliases)
      → made three ≡ aliases ∷ made two
      → (IsTrue honest → Stays images may_leave (made three) two three)
      → Loads limits found honest images may_leave made zero three loaded
  Loads-made zero one two three names opening loaded same sorted used left in_order listed before walk handed known slot made_one stays =
      let plain_is : plain opening ≡ (record { rings = rows_of opening.rings; used = loaded.used.items }) = λ i. record { rings = rows_of opening.rings; used = sym used i } in
      let opens : Opens limits walk.files (record { rings = rows_of opening.rings; used = loaded.used.items }) = subst (λ o. Opens limits walk.files o) plain_is walk.opens in
      let ordered : IsInOrder walk.files = subst (λ l. IsStrictlySortedBy (slice_cmp nat_cmp) l) (sym walk.keys) in_order in
      let starts : Starts limits walk.files (opening_of loaded) = record {
        ordered = ordered;
        taken = rows_of opening.rings;
        opens = opens;
        by_stem = rows_by_stem limits walk.files opening.rings loaded.rings.items loaded.used.items opens ordered same sorted;
      } in
      record {
        opened = λ is. record {
          files = walk.files;
          all = all_found (images zero) walk.files names walk.keys (told_same (images one) (images zero) (before is) walk.files (walk.told is))
              (λ name. subst (λ (i : Image). Contains names name ↔ IsSome i) (before is name) (listed is name));
          starts = starts;
          aliases = gives_found honest (images zero aliases) loaded.aliases are is;
        };
        some = record { files = walk.files; starts = starts };
        found_aliases = are;
        rest = made two;
        made_all = made_one;
        taken = opening.rings;
        by_stem = cells_by_stem limits walk.files opening.rings loaded.rings.items loaded.used.items opens ordered same sorted;
        handed = subst (λ l. HandsBack found (images zero) (made two) opening.rings l) (sym left) handed;
        alias_found = slot;
        made_of = made_of;
        same = same_image;
        settled = settled;
        unused = λ name stem is unused.
            let off : ¬ (Contains (made three) name) = λ has. ⊎_elim
            (λ alias. aliases_no_ring stem (subst (λ n. IsRingName n stem) alias is))
            (λ by. unused (subst (λ s. Contains loaded.used.items s) (one_stem name by.0 stem by.1 is) by.2))
            (made_of name has) in
            let none : IsTrue honest → images three name ≡ None = λ yes. same_image yes name off ∙ sym (before yes name) ∙ no_file (images one name)
            (λ some. unused (used_stem limits walk.files (record { rings = rows_of opening.rings; used = loaded.used.items }) opens name stem
            (subst (λ l. Contains l name) (sym walk.keys) ((listed yes name).1 some)) is)) in
            record { slotless = off; absent = none; crash = λ yes. subst (λ (i : Image). Only i (may_leave three name)) (none yes) (settled yes name off) };
      }
    where
      earlier : (name : List ℕ) → ¬ (Contains (made three) name) → ¬ (Contains (made two) name)
      earlier name off (k, in_range, is) = off (subst (λ l. Contains l name) (sym made_one) (suc k, omega (arith, in_range), is))

      are : AreFound honest (images zero aliases) loaded.aliases
      are = found_same_aliases honest (images two aliases) (images zero aliases) loaded.aliases (λ is. walk.same is aliases (off_way one two names opening walk) ∙ before is aliases) known

      made_of : (name : List ℕ) → Contains (made three) name → (name ≡ aliases) ⊎ ((stem : List ℕ) × IsRingName name stem × Contains loaded.used.items stem)
      made_of name has = ⊎_elim
          (λ alias. inl alias)
          (λ earlier_one. let by = (walk.slots name earlier_one).1 in inr (by.0, by.1, subst (λ l. Contains l by.0) (sym used) by.2))
          (cons_cases aliases (made two) name (subst (λ l. Contains l name) made_one has))

      same_image : IsTrue honest → (name : List ℕ) → ¬ (Contains (made three) name) → images three name ≡ images zero name
      same_image is name off = (stays is).same name off ∙ walk.same is name (earlier name off) ∙ before is name

      settled : IsTrue honest → (name : List ℕ) → ¬ (Contains (made three) name) → Only (images three name) (may_leave three name)
      settled is name off = subst (λ (i : Image). Only i (may_leave three name)) (sym ((stays is).same name off ∙ walk.same is name (earlier name off)))
          (λ left may. walk.settled is name (earlier name off) left ((stays is).crash name off left may))
