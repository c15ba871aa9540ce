-- The aliases with what is known of their file: what a change of them and a resolve of the file make of them, and that they stay sound.
use Rattle.std.proofs.Common.{◌≡◌, ℕ, nat_le, Bool, true, false, cond, IfSome, IsSome, List, length, Option, Some, None, Result, Ok, Err, refl, sym, ap, subst, ◌∙◌, arith}
use Rattle.std.specs.Map.{keys_of}
use Rattle.std.proofs.lemmas.Bool.Decides.{nat_tests}
use Rattle.kr_base.specs.Stem.{IsStem}
use Rattle.kr_names.specs.Path.{IsAliasName}
use Rattle.alias_text.specs.Pairs.{AliasesOf, GivesAliases}
use Rattle.alias_text.specs.Writing.{AreAliases, most_aliases, text_of}
use Rattle.alias_text.proofs.LawLemmas.{few_fit, written_is_read}
use Rattle.alias_table.specs.Changed.{Aliases, changed, few}
use Rattle.alias_table.specs.Table as table
use Rattle.alias_table.specs.Table.{AliasRows, AreGiven, Change, IsFor, IsPrepared, Sets, Stores, chosen, resolved, stored, unsure}
use Rattle.alias_table.specs.declared.refused.AliasRefused.{AliasRefused}
use Rattle.alias_table.specs.declared.refused.AliasRefused.TheVariants as refused
use Rattle.alias_table.proofs.ChangedLemmas.{changed_are}
use Rattle.alias_table.proofs.TableLemmas.{given_are}
use Rattle.replace_slot.specs.Cell.{File, Known, Doubt, IsKnown, old_image}
use Rattle.replace_slot.specs.Found.{found_file}
use Rattle.replace_slot.specs.declared.images.Found.{Found}
use Rattle.replace_slot.specs.declared.images.Found.TheVariants as image
use Rattle.service_tables.specs.Aliases.{aliases_resolved, aliases_set, aliases_with, are_doubtful, is_doubt, rows_resolved, rows_set, rows_set_of}
use Rattle.service_tables.specs.Opened.{Contents}
use Rattle.service_tables.specs.Slots.{IsFault}
use Rattle.service_tables.specs.Sound.{AreSoundAliases}
use Rattle.service_tables.specs.declared.fate.Fate.TheVariants.{Store}
use Rattle.service_tables.specs.declared.fate.ReadFate.{ReadFate}
use Rattle.service_tables.specs.declared.fate.ReadFate.TheVariants as read
use Rattle.service_tables.specs.declared.fate.StoreFate.{StoreFate}
use Rattle.service_tables.specs.declared.fate.StoreFate.TheVariants as store

-- ---- what is known of the file

pub certain-known : (file : File) → is_doubt file ≡ false → IsKnown file
certain-known (Known image) is = tt
certain-known (Doubt old new) is = absurd (let no : true ≡ false = is in cc)

-- ---- a store

-- what a store of these aliases does that ended so
abbrev pub Ended : Option Aliases → AliasRows → Result (Unit {0}) AliasRefused → AliasRows → Type 0
Ended next rows (Ok ok) new = (these : Aliases) × (next ≡ Some these) × (new ≡ stored these)
Ended next rows (Err refused.BadName) new = ⊥
Ended next rows (Err refused.TooMany) new = (next ≡ None) × (new ≡ rows)
Ended next rows (Err refused.FaultBefore) new = (these : Aliases) × (next ≡ Some these) × (new ≡ rows)
Ended next rows (Err refused.FaultUnsure) new = (these : Aliases) × (next ≡ Some these) × (new ≡ unsure these rows)
Ended next rows (Err refused.FaultRead) new = ⊥
Ended next rows (Err refused.OutOfMemory) new = ⊥

ended : (next : Option Aliases) (rows new : AliasRows) (result : Result (Unit {0}) AliasRefused) → Stores next rows result new → Ended next rows result new
ended next rows _ _ (table.done these is) = (these, is, refl)
ended next rows _ _ (table.too_many is) = (is, refl)
ended next rows _ _ (table.failed these is) = (these, is, refl)
ended next rows _ _ (table.in_doubt these is) = (these, is, refl)

-- the file is known, so nothing is resolved
pub sets-known : (IsRead : Found → Type 0) (change : Change) (rows new : AliasRows) (result : Result (Unit {0}) AliasRefused) → is_doubt rows.file ≡ false
    → Sets IsRead change rows result new → Ended change.next rows result new
sets-known IsRead change rows _ _ certain (table.known result next is stores) = ended change.next rows next result stores
sets-known IsRead change rows _ _ certain (table.unread off) = absurd (off (certain-known rows.file certain))
sets-known IsRead change rows _ _ certain (table.settled found result next off read stores) = absurd (off (certain-known rows.file certain))

-- the same of an answer that is this one
pub sets-ended : (IsRead : Found → Type 0) (change : Change) (rows new : AliasRows) (result how : Result (Unit {0}) AliasRefused) → is_doubt rows.file ≡ false → result ≡ how
    → Sets IsRead change rows result new → Ended change.next rows how new
sets-ended IsRead change rows new result how certain is sets = subst (λ r. Ended change.next rows r new) is (sets-known IsRead change rows new result certain sets)

-- what becomes of the aliases then
pub rows-become-set : (some : StoreFate) (next : Option Aliases) (rows new : AliasRows) → (these : Aliases) × (next ≡ Some these) × (new ≡ rows_set these some rows) → new ≡ rows_set_of next some rows
rows-become-set some next rows new (these, is, same) = same ∙ sym (ap (λ n. rows_set_of n some rows) is)

pub some-set : (next : Option Aliases) (P : Aliases → Type 0) → (these : Aliases) × (next ≡ Some these) × P these → IsSome next
some-set next P (these, is, rest) = rw is refl

-- ---- sound aliases

found-sound : (found : Found) (rows : AliasRows) → AreGiven rows.file rows.aliases rows.newer → AreSoundAliases (Some (resolved found rows))
found-sound found rows given =
    let pass : (file : File) (newer : Option Aliases) → AreGiven file rows.aliases newer → AreSoundAliases (Some (resolved found (record { file = file; aliases = rows.aliases; newer = newer }))) =
    λ file newer is. of-parts found file rows.aliases newer is in
    pass rows.file rows.newer given
  where
    of-parts : (found : Found) (file : File) (aliases : Aliases) (newer : Option Aliases) → AreGiven file aliases newer
        → AreSoundAliases (Some (resolved found (record { file = file; aliases = aliases; newer = newer })))
    of-parts image.Old (Known image) aliases None given = given
    of-parts image.New (Known image) aliases None given = given
    of-parts image.Other (Known image) aliases None given = given
    of-parts found (Known image) aliases (Some newer) given = absurd given
    of-parts found (Doubt old new) aliases None given = absurd given
    of-parts image.Old (Doubt old new) aliases (Some newer) given = given.0
    of-parts image.New (Doubt old new) aliases (Some newer) given = given.1
    of-parts image.Other (Doubt old new) aliases (Some newer) given = given.0

rows-resolved-sound : (some : ReadFate) (rows : AliasRows) → AreSoundAliases (Some rows) → AreSoundAliases (Some (rows_resolved some rows))
rows-resolved-sound read.Old rows sound = found-sound image.Old rows sound
rows-resolved-sound read.New rows sound = found-sound image.New rows sound
rows-resolved-sound read.Other rows sound = found-sound image.Other rows sound
rows-resolved-sound read.ReadFailed rows sound = sound

-- a resolve of their file, however it ended
pub sound-resolved : (some : ReadFate) (aliases : Option AliasRows) → AreSoundAliases aliases → AreSoundAliases (aliases_resolved some aliases)
sound-resolved some None sound = tt
sound-resolved some (Some rows) sound = rows-resolved-sound some rows sound

-- aliases that are stored are those that their text gives
abbrev CanStore : Aliases → Type 0
CanStore next = AliasesOf (text_of next) next

few-can : (these next : Aliases) → AreAliases these → few these ≡ Some next → CanStore next
few-can these next are is =
    let pass : (b : Bool) → nat_le (length these) most_aliases ≡ b → cond b (Some these) None ≡ Some next → CanStore next =
    elim [
      | true ↦ λ at has. let same : these ≡ next = cc in subst CanStore same (written_is_read these are (few_fit these are (grind (arith, nat_tests, at))))
      | false ↦ λ at has. absurd cc
    ] in
    pass (nat_le (length these) most_aliases) refl is

older-given : (file : File) (aliases : Aliases) (newer : Option Aliases) → AreGiven file aliases newer → GivesAliases (old_image file) aliases
older-given (Known image) aliases None given = given
older-given (Known image) aliases (Some newer) given = absurd given
older-given (Doubt old new) aliases None given = absurd given
older-given (Doubt old new) aliases (Some newer) given = given.0

rows-set-sound : (next : Aliases) (some : StoreFate) (rows : AliasRows) → CanStore next → AreSoundAliases (Some rows) → AreSoundAliases (Some (rows_set next some rows))
rows-set-sound next store.Stored rows can sound = can
rows-set-sound next store.Before rows can sound = sound
rows-set-sound next store.Unsure rows can sound = (older-given rows.file rows.aliases rows.newer sound, can)

rows-set-of-sound : (next : Option Aliases) (some : StoreFate) (rows : AliasRows) → IfSome next CanStore → AreSoundAliases (Some rows) → AreSoundAliases (Some (rows_set_of next some rows))
rows-set-of-sound None some rows can sound = sound
rows-set-of-sound (Some next) some rows can sound = rows-set-sound next some rows can sound

-- a change of them, however its storing ended
pub sound-set : (name : List ℕ) (stem : Option (List ℕ)) (some : StoreFate) (contents : Contents) → IsAliasName name → IfSome stem IsStem → AreSoundAliases contents.aliases
    → AreSoundAliases (aliases_set name stem some contents)
sound-set name stem some contents named stems sound =
    let becomes : Option AliasRows → Option AliasRows = λ aliases. aliases_set name stem some (record contents { aliases = aliases }) in
    let of_rows : (rows : AliasRows) → AreSoundAliases (Some rows) → AreSoundAliases (becomes (Some rows)) =
    λ rows is.
    let these = changed name stem (keys_of contents.collections) rows.aliases in
    let are : AreAliases these = changed_are name stem (keys_of contents.collections) rows.aliases (given_are rows.file rows.aliases rows.newer is) named stems in
    let pass : (next : Option Aliases) → few these ≡ next → IfSome next CanStore = elim [ None ↦ λ at. tt | Some next ↦ λ at. few-can these next are at ] in
    rows-set-of-sound (few these) some rows (pass (few these) refl) is in
    let pass : (aliases : Option AliasRows) → AreSoundAliases aliases → AreSoundAliases (becomes aliases) = elim [ None ↦ λ is. tt | Some rows ↦ λ is. of_rows rows is ] in
    pass contents.aliases sound

-- ---- without a fault no doubt arises

found-certain : (found : Found) (file : File) → is_doubt (found_file found file) ≡ false
found-certain found (Known image) = refl
found-certain image.Old (Doubt old new) = refl
found-certain image.New (Doubt old new) = refl
found-certain image.Other (Doubt old new) = refl

rows-resolved-certain : (some : ReadFate) (rows : AliasRows) → is_doubt rows.file ≡ false → is_doubt (rows_resolved some rows).file ≡ false
rows-resolved-certain read.Old rows certain = found-certain image.Old rows.file
rows-resolved-certain read.New rows certain = found-certain image.New rows.file
rows-resolved-certain read.Other rows certain = found-certain image.Other rows.file
rows-resolved-certain read.ReadFailed rows certain = certain

pub certain-resolved : (some : ReadFate) (aliases : Option AliasRows) → are_doubtful aliases ≡ false → are_doubtful (aliases_resolved some aliases) ≡ false
certain-resolved some None certain = refl
certain-resolved some (Some rows) certain = rows-resolved-certain some rows certain

rows-set-certain : (next : Option Aliases) (some : StoreFate) (rows : AliasRows) → (IsFault (Store some) → ⊥) → is_doubt rows.file ≡ false → is_doubt (rows_set_of next some rows).file ≡ false
rows-set-certain None some rows well certain = certain
rows-set-certain (Some next) store.Stored rows well certain = refl
rows-set-certain (Some next) store.Before rows well certain = certain
rows-set-certain (Some next) store.Unsure rows well certain = absurd (well tt)

pub certain-set : (name : List ℕ) (stem : Option (List ℕ)) (some : StoreFate) (contents : Contents) → (IsFault (Store some) → ⊥) → are_doubtful contents.aliases ≡ false
    → are_doubtful (aliases_set name stem some contents) ≡ false
certain-set name stem some contents well certain =
    let becomes : Option AliasRows → Option AliasRows = λ aliases. aliases_set name stem some (record contents { aliases = aliases }) in
    let pass : (aliases : Option AliasRows) → are_doubtful aliases ≡ false → are_doubtful (becomes aliases) ≡ false =
    elim [
      | None ↦ λ is. refl
      | Some rows ↦ λ is. rows-set-certain (aliases_with name stem contents.collections rows) some rows well is
    ] in
    pass contents.aliases certain
