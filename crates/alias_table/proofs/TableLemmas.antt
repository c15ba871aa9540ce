-- The rows of the table: what their type says of them, and what a change does to them.
use Rattle.std.proofs.Common.{◌≡◌, ℕ, List, Option, None, Some, Result, Ok, Err, refl, sym, ◌∙◌, ap, subst}
use Rattle.kr_base.proofs.AttributeLemmas.{IsInOrder-nil}
use Rattle.std.proofs.lemmas.List.Elements.{All-nil}
use Rattle.kr_base.specs.Stem.{IsStem}
use Rattle.kr_names.specs.Path.{IsAliasName}
use Rattle.kr_outside.specs.RenameDisk.{Image}
use Rattle.alias_text.specs.Pairs.{AliasesOf, GivesAliases}
use Rattle.alias_text.specs.Writing.{AreAliases, text_of}
use Rattle.alias_text.proofs.LawLemmas.{read_are, written_is_read}
use Rattle.replace_slot.specs.Cell.{File, Known, Doubt, IsKnown, old_image}
use Rattle.replace_slot.specs.declared.images.Found.{Found}
use Rattle.alias_table.specs.Changed.{Aliases, IsStorable}
use Rattle.alias_table.specs.Table.{AreGiven, AliasRows, Stores, done, failed, in_doubt, unsure, resolved, chosen, Change, Sets, settled}
use Rattle.alias_table.specs.declared.refused.AliasRefused.{AliasRefused}
use Rattle.alias_table.specs.declared.refused.AliasRefused.TheVariants.{FaultBefore, FaultUnsure}

image_are : (image : Image) (aliases : Aliases) → GivesAliases image aliases → AreAliases aliases
image_are None aliases none = subst AreAliases (sym none) (record { ordered = IsInOrder-nil (List ℕ); each = All-nil (λ (alias : List ℕ × List ℕ). IsAliasName alias.0 × IsStem alias.1) })
image_are (Some bytes) aliases gives = read_are bytes aliases gives

-- the aliases that are read can be stored again, and so can those of the newer image
pub given_are : (file : File) (aliases : Aliases) (newer : Option Aliases) → AreGiven file aliases newer → AreAliases aliases
given_are (Known image) aliases None given = image_are image aliases given
given_are (Known image) aliases (Some newer) given = absurd given
given_are (Doubt old new) aliases None given = absurd given
given_are (Doubt old new) aliases (Some newer) given = image_are old aliases given.0

pub newer_are : (file : File) (aliases newer : Aliases) → AreGiven file aliases (Some newer) → AreAliases newer
newer_are (Known image) aliases newer given = absurd given
newer_are (Doubt old new) aliases newer given = image_are new newer given.1

-- if the file is known, there are no aliases of a newer image
pub known_none : (file : File) (aliases : Aliases) (newer : Option Aliases) → AreGiven file aliases newer → IsKnown file → newer ≡ None
known_none (Known image) aliases None given known = refl
known_none (Known image) aliases (Some newer) given known = absurd given
known_none (Doubt old new) aliases newer given known = absurd known

-- ---- what a store does

-- the new image gives what was stored
stored_given : (next : Aliases) (text : List ℕ) → IsStorable next text → GivesAliases (Some text) next
stored_given next text can = subst (λ t. AliasesOf t next) (sym can.is) (written_is_read next can.are can.fits)

pub given_stored : (next aliases : Aliases) (file : File) (newer : Option Aliases) → IsStorable next (text_of next) → aliases ≡ next → file ≡ Known (Some (text_of next)) → newer ≡ None → AreGiven file aliases newer
given_stored next aliases file newer can same is none = rw (is, none, same) (stored_given next (text_of next) can)

pub given_unsure : (next newer aliases : Aliases) (was file : File) (before : Option Aliases) → IsStorable next (text_of next) → newer ≡ next → AreGiven was aliases before → IsKnown was
    → file ≡ Doubt (old_image was) (Some (text_of next)) → AreGiven file aliases (Some newer)
given_unsure next newer aliases (Known image) file None can same given known is = rw (is, same) (given, stored_given next (text_of next) can)
given_unsure next newer aliases (Known image) file (Some other) can same given known is = absurd given
given_unsure next newer aliases (Doubt old new) file before can same given known is = absurd known

pub stores_done : (wanted : Option Aliases) (rows : AliasRows) (next aliases : Aliases) (file : File) (newer : Option Aliases) → wanted ≡ Some next → aliases ≡ next → file ≡ Known (Some (text_of next)) → newer ≡ None
    → Stores wanted rows (Ok tt) (record { file = file; aliases = aliases; newer = newer })
stores_done wanted rows next aliases file newer is same now none =
    subst (Stores wanted rows (Ok tt)) (λ i. record { file = sym now i; aliases = sym same i; newer = sym none i }) (done next is)

pub stores_failed : (wanted : Option Aliases) (rows : AliasRows) (next aliases : Aliases) (was file : File) (newer : Option Aliases) → wanted ≡ Some next → record { file = was; aliases = aliases; newer = newer } ≡ rows → file ≡ was
    → Stores wanted rows (Err FaultBefore) (record { file = file; aliases = aliases; newer = newer })
stores_failed wanted rows next aliases was file newer is view same =
    subst (Stores wanted rows (Err FaultBefore)) (sym view ∙ (λ i. record { file = sym same i; aliases = aliases; newer = newer })) (failed next is)

pub stores_unsure : (wanted : Option Aliases) (rows : AliasRows) (next newer aliases : Aliases) (was file : File) (before : Option Aliases) → wanted ≡ Some next → newer ≡ next → record { file = was; aliases = aliases; newer = before } ≡ rows
    → file ≡ Doubt (old_image was) (Some (text_of next)) → Stores wanted rows (Err FaultUnsure) (record { file = file; aliases = aliases; newer = Some newer })
stores_unsure wanted rows next newer aliases was file before is same view now =
    subst (Stores wanted rows (Err FaultUnsure))
    (ap (unsure next) (sym view) ∙ (λ i. record { file = sym now i; aliases = aliases; newer = Some (sym same i) }))
    (in_doubt next is)

-- ---- what a change does

pub sets_settled : (IsRead : Found → Type 0) (found : Found) (change : Change) (rows mid next : AliasRows) (wanted : Option Aliases) (result : Result (Unit {0}) AliasRefused) → ¬ (IsKnown rows.file) → IsRead found
    → mid ≡ resolved found rows → wanted ≡ chosen found change → Stores wanted mid result next → Sets IsRead change rows result next
sets_settled IsRead found change rows mid next wanted result doubt read is chosen_is stores = settled found result next doubt read (rw (← is, ← chosen_is) stores)
