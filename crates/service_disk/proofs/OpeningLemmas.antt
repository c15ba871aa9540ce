-- A collection that is to be unlocked: how that ends, by what is known of its file, and what becomes of it.
use Rattle.std.proofs.Common.{◌≡◌, ◌↔◌, ℕ, ◌==◌, ◌⊎◌, inl, inr, Bool, true, false, ◌&&◌, cond, IsTrue, IsSome, IfOk, IsOk, OnErr, OnOk, List, [], ◌∷◌, Option, Some, None, Result, Ok, Err, refl, sym, ap, ◌∙◌, arith}
use Rattle.std.specs.Cmp.Lexicographic.{slice_cmp, nat_list_cmp_total}
use Rattle.std.specs.Option.{is_some, option_map, option_map_or}
use Rattle.std.specs.Ordering.{nat_cmp, is_eq}
use Rattle.std.proofs.lemmas.Bool.Decides.{nat_tests}
use Rattle.std.proofs.lemmas.Cmp.{tied_itself}
use Rattle.std.proofs.lemmas.Map.Lookups.{exact_bytes}
use Rattle.std.proofs.lemmas.Option.{none-some}
use Rattle.kr_base.specs.Attributes.{is_name, value_at}
use Rattle.kr_base.proofs.OrderedLemmas.{is_equal}
use Rattle.key_derivation.specs.Kdf.{Inputs, key_of, vector_of}
use Rattle.keyring_file.specs.Clear.{ClearPart}
use Rattle.keyring_file.specs.declared.fault.AreaFault.{AreaFault}
use Rattle.keyring_file.specs.declared.fault.AreaFault.TheVariants as area
use Rattle.service_tables.specs.keyring_seal.specs.Arranged.{arranged_rows}
use Rattle.service_tables.specs.keyring_seal.specs.Whole.{opened}
use Rattle.service_tables.specs.keyring_seal.specs.declared.content.Content.{Content}
use Rattle.service_tables.specs.keyring_seal.specs.declared.opening.OpenFault.{OpenFault}
use Rattle.service_tables.specs.keyring_seal.specs.declared.opening.OpenFault.TheVariants as fault
use Rattle.replace_slot.specs.Cell.{File, Known, Doubt, IsKnownFile}
use Rattle.service_tables.specs.collection_store.specs.CollectionReading.{Fits, Opens, Unlocks}
use Rattle.service_tables.specs.collection_store.specs.State.{CollectionState, Held}
use Rattle.service_tables.specs.collection_store.specs.declared.refused.UnlockRefused.{UnlockRefused}
use Rattle.service_tables.specs.collection_store.specs.declared.refused.UnlockRefused.TheVariants as refused
use Rattle.service_tables.specs.collection_table.specs.Entries.{Entries, changed, row_of, rows_of}
use Rattle.service_tables.specs.collection_table.specs.Rows.{CollectionRow}
use Rattle.service_tables.specs.collection_table.proofs.RowLemmas.{value-rows}
use Rattle.service_disk.specs.Opening.{held_by, is_fit, opening_by, opening_file, opening_in, opening_of, row_by, row_opened, rows_opened}
use Rattle.service_disk.specs.declared.opening.Opening.{Opening}
use Rattle.service_disk.specs.declared.opening.Opening.TheVariants as ends

-- ---- whether a key fits

both-of : (a b : Bool) → (a && b) ≡ true → (a ≡ true) × (b ≡ true)
both-of true true is = (refl, refl)
both-of true false is = absurd (let no : false ≡ true = is in cc)
both-of false b is = absurd (let no : false ≡ true = is in cc)

same-number : (a b : ℕ) → (a == b) ≡ true → a ≡ b
same-number a b is = grind (arith, nat_tests, is)

number-itself : (a : ℕ) → (a == a) ≡ true
number-itself a = grind (arith, nat_tests)

fit-is : (key : Inputs) (clear : ClearPart) → is_fit key clear ≡ true → (key.salt ≡ clear.salt) × (key.iterations ≡ clear.iterations)
fit-is key clear is =
    let both = both-of (is_name key.salt clear.salt) (key.iterations == clear.iterations) is in
    (exact_bytes key.salt clear.salt (is_equal (slice_cmp nat_cmp key.salt clear.salt) both.0), same-number key.iterations clear.iterations both.1)

is-fit : (key : Inputs) (clear : ClearPart) → key.salt ≡ clear.salt → key.iterations ≡ clear.iterations → is_fit key clear ≡ true
is-fit key clear salt iterations =
    let first : is_name key.salt clear.salt ≡ true = ap (is_name key.salt) (sym salt) ∙ ap is_eq (tied_itself nat_list_cmp_total key.salt) in
    let second : (key.iterations == clear.iterations) ≡ true = ap (λ n. key.iterations == n) (sym iterations) ∙ number-itself key.iterations in
    ap (λ b. b && key.iterations == clear.iterations) first ∙ second

-- ---- how an attempt ends

module _ (key : Inputs) where
  -- an attempt that doesn't open it
  abbrev IsShut : Opening → Type 0
  IsShut ends.Settled = Unit {0}
  IsShut ends.Unfit = Unit {0}
  IsShut ends.WrongPassword = Unit {0}
  IsShut ends.Damaged = Unit {0}
  IsShut ends.Opened = ⊥

  -- leaves it as before
  pub row-stays : (how : Opening) (row : CollectionRow) → opening_in key row ≡ how → IsShut how → row_opened key row ≡ row
  row-stays ends.Settled row at shut = ap (λ h. row_by key h row) at
  row-stays ends.Unfit row at shut = ap (λ h. row_by key h row) at
  row-stays ends.WrongPassword row at shut = ap (λ h. row_by key h row) at
  row-stays ends.Damaged row at shut = ap (λ h. row_by key h row) at
  row-stays ends.Opened row at shut = absurd shut

  unlocked-is : (b : Bool) (held : Option Held) → (IsTrue b ↔ IsSome held) → b ≡ true → is_some held ≡ true
  unlocked-is b None both on = absurd (let no : false ≡ true = both.0 on in cc)
  unlocked-is b (Some held) both on = refl

  locked-is : (b : Bool) (held : Option Held) → (IsTrue b ↔ IsSome held) → b ≡ false → held ≡ None
  locked-is b None both off = refl
  locked-is b (Some held) both off = absurd (let no : false ≡ true = sym off ∙ both.1 refl in cc)

  pub settled-in : (b : Bool) (row : CollectionRow) → (IsTrue b ↔ IsSome row.held) → b ≡ true → opening_in key row ≡ ends.Settled
  settled-in b row both on = ap (λ t. cond t ends.Settled (opening_file key row.clear row.file)) (unlocked-is b row.held both on)

  by-file : (row : CollectionRow) → row.held ≡ None → opening_in key row ≡ opening_file key row.clear row.file
  by-file row locked = ap (λ h. cond (is_some h) ends.Settled (opening_file key row.clear row.file)) locked

  unfit-file : (clear : ClearPart) (held : Option Held) (file : File) → held ≡ None → (Fits file clear held key → ⊥) → opening_file key clear file ≡ ends.Unfit
  unfit-file clear held (Known None) locked off = refl
  unfit-file clear held (Doubt old new) locked off = refl
  unfit-file clear held (Known (Some bytes)) locked off =
      let pass : (b : Bool) → is_fit key clear ≡ b → cond b (opening_by (opened bytes (key_of key) (vector_of key))) ends.Unfit ≡ ends.Unfit =
      elim [
        | true ↦ λ is. absurd (off (record { locked = locked; there = tt; salt = (fit-is key clear is).0; iterations = (fit-is key clear is).1 }))
        | false ↦ λ is. refl
      ] in
      pass (is_fit key clear) refl

  pub unfit-in : (unlocked fits : Bool) (row : CollectionRow) → (IsTrue unlocked ↔ IsSome row.held) → unlocked ≡ false → (IsTrue fits ↔ Fits row.file row.clear row.held key) → fits ≡ false
      → opening_in key row ≡ ends.Unfit
  unfit-in unlocked fits row both shut test off =
      let locked = locked-is unlocked row.held both shut in
      by-file row locked ∙ unfit-file row.clear row.held row.file locked (λ is. let no : false ≡ true = sym off ∙ test.1 is in cc)

  fit-file : (clear : ClearPart) (held : Option Held) (bytes : List ℕ) → Fits (Known (Some bytes)) clear held key
      → opening_file key clear (Known (Some bytes)) ≡ opening_by (opened bytes (key_of key) (vector_of key))
  fit-file clear held bytes fits = ap (λ b. cond b (opening_by (opened bytes (key_of key) (vector_of key))) ends.Unfit) (is-fit key clear fits.salt fits.iterations)

  -- ---- it opened

  abbrev holds : Content → Held
  holds content = record { key = key_of key; vector = vector_of key; rows = arranged_rows content }

  module _ {S : Type 0} (slot : S) (clear : ClearPart) (other : Option ClearPart) (held : Option Held) (new : CollectionState S) where
    abbrev row : File → CollectionRow
    row file = record { file = file; clear = clear; other = other; held = held }

    abbrev Becomes : File → Content → Type 0
    Becomes file content = new ≡ record { slot = slot; file = file; clear = clear; other = other; held = Some (holds content) }

    opened-file : (file : File) → Fits file clear held key → IsKnownFile (λ bytes. Opens bytes (key_of key) (vector_of key) (Becomes file)) file
        → (opening_in key (row file) ≡ ends.Opened) × (row_of new ≡ row_opened key (row file))
    opened-file (Known None) fits is = absurd is
    opened-file (Doubt old other_image) fits is = absurd is
    opened-file (Known (Some bytes)) fits (becomes, opens) =
        let these : CollectionRow = row (Known (Some bytes)) in
        let by = by-file these fits.locked ∙ fit-file clear held bytes fits in
        let pass : (made : Result Content OpenFault) → opened bytes (key_of key) (vector_of key) ≡ made → IfOk made (Becomes (Known (Some bytes))) → IsOk made
        → (opening_in key these ≡ ends.Opened) × (row_of new ≡ row_opened key these) =
        elim [
          | Ok content ↦ λ at became ok.
              let how : opening_in key these ≡ ends.Opened = by ∙ ap opening_by at in
              (how, ap row_of became ∙ sym (ap (λ h. row_by key h these) how ∙ ap (λ (r : Result Content OpenFault). record these { held = held_by key r }) at))
          | Err wrong ↦ λ at became ok. absurd (let no : false ≡ true = ok in cc)
        ] in
        pass (opened bytes (key_of key) (vector_of key)) refl becomes opens

  pub opened-in : {S : Type 0} (old new : CollectionState S) → Fits old.file old.clear old.held key
      → IsKnownFile (λ bytes. Opens bytes (key_of key) (vector_of key) (λ content. new ≡ record old { held = Some (holds content) })) old.file
      → (opening_in key (row_of old) ≡ ends.Opened) × (row_of new ≡ row_opened key (row_of old))
  opened-in old new fits is = opened-file old.slot old.clear old.other old.held new old.file fits is

  -- ---- it was refused

  abbrev how_of : UnlockRefused → Opening
  how_of refused.WrongPassword = ends.WrongPassword
  how_of (refused.Damaged wrong) = ends.Damaged
  how_of refused.OutOfMemory = ends.Damaged

  by-fault : (why : UnlockRefused) (made : Result Content OpenFault) → Unlocks made why → opening_by made ≡ how_of why
  by-fault why (Ok content) is = absurd is
  by-fault why (Err (fault.Clear wrong)) is = absurd is
  by-fault why (Err (fault.Area area.CheckDiffers)) is = ap how_of (sym is)
  by-fault why (Err (fault.Area area.Short)) is = ap how_of (sym is)
  by-fault why (Err (fault.Area area.BadText)) is = ap how_of (sym is)
  by-fault why (Err (fault.Area area.BadKind)) is = ap how_of (sym is)
  by-fault why (Err (fault.Area area.DuplicateName)) is = ap how_of (sym is)

  refused-file : (clear : ClearPart) (held : Option Held) (why : UnlockRefused) (file : File) → Fits file clear held key
      → IsKnownFile (λ bytes. Unlocks (opened bytes (key_of key) (vector_of key)) why) file → opening_file key clear file ≡ how_of why
  refused-file clear held why (Known None) fits is = absurd is
  refused-file clear held why (Doubt old new) fits is = absurd is
  refused-file clear held why (Known (Some bytes)) fits is = fit-file clear held bytes fits ∙ by-fault why (opened bytes (key_of key) (vector_of key)) is

  pub refused-in : (row : CollectionRow) (why : UnlockRefused) → (why ≡ refused.OutOfMemory → ⊥) → Fits row.file row.clear row.held key
      → (why ≡ refused.OutOfMemory) ⊎ IsKnownFile (λ bytes. Unlocks (opened bytes (key_of key) (vector_of key)) why) row.file → opening_in key row ≡ how_of why
  refused-in row why other fits ended =
      by-file row fits.locked ∙ (elim ended [ inl memory ↦ absurd (other memory) | inr is ↦ refused-file row.clear row.held why row.file fits is ])

  pub damaged-in : (row : CollectionRow) (why : UnlockRefused) (wrong : AreaFault) → why ≡ refused.Damaged wrong → Fits row.file row.clear row.held key
      → (why ≡ refused.OutOfMemory) ⊎ IsKnownFile (λ bytes. Unlocks (opened bytes (key_of key) (vector_of key)) why) row.file → opening_in key row ≡ ends.Damaged
  damaged-in row why wrong is fits ended =
      refused-in row why (λ memory. let no : refused.Damaged wrong ≡ refused.OutOfMemory = sym is ∙ memory in cc) fits ended ∙ ap how_of is

-- ---- the collection of a stem

changed-missing : {V : Type 0} (stem : List ℕ) (f : V → V) (entries : List (List ℕ × V)) → value_at stem entries ≡ None → changed stem f entries ≡ entries
changed-missing stem f [] none = refl
changed-missing stem f (e ∷ more) none =
    let pass : (b : Bool) → is_name stem e.0 ≡ b → changed stem f (e ∷ more) ≡ e ∷ more =
    elim [
      | true ↦ λ is. absurd (none-some e.1 (sym none ∙ rw is refl))
      | false ↦ λ off. rw off (ap (λ t. e ∷ t) (changed-missing stem f more (rw off at none)))
    ] in
    pass (is_name stem e.0) refl

module _ {S : Type 0} (key : Inputs) (stem : List ℕ) (entries : Entries S) where
  pub opening-there : (c : CollectionState S) → Some c ≡ value_at stem entries → opening_of key stem (rows_of entries) ≡ opening_in key (row_of c)
  opening-there c there = ap (λ o. option_map_or (opening_in key) o ends.Settled) (value-rows stem entries ∙ ap (option_map row_of) (sym there))

  pub opening-missing : None ≡ value_at stem entries → ends.Settled ≡ opening_of key stem (rows_of entries)
  opening-missing none = sym (ap (λ o. option_map_or (opening_in key) o ends.Settled) (value-rows stem entries ∙ ap (option_map row_of) (sym none)))

  pub rows-missing : None ≡ value_at stem entries → rows_of entries ≡ rows_opened key stem (rows_of entries)
  rows-missing none = sym (changed-missing stem (row_opened key) (rows_of entries) (value-rows stem entries ∙ ap (option_map row_of) (sym none)))

module _ {A E : Type 0} where
  pub on-ok : (result : Result A E) (P Q : Type 0) → (P → Q) → OnOk result P → OnOk result Q
  on-ok (Ok x) P Q weaker is = weaker is
  on-ok (Err e) P Q weaker is = tt

  pub on-err : (result : Result A E) (P Q : Type 0) → (P → Q) → OnErr result P → OnErr result Q
  on-err (Ok x) P Q weaker is = tt
  on-err (Err e) P Q weaker is = weaker is
