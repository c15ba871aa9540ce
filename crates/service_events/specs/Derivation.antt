-- What becomes of a prompt once the key was derived that its answer asked for (docs/SERVICE.md, "Prompts"). The cases of each kind are in
-- their order, and the first one that holds counts. A plan sees how the collection opens with the key, and not the key.
use Rattle.std.specs.Prelude.{ℕ, ◌+◌, ◌==◌, Bool, ◌&&◌, false, true, if◌then◌else◌, nat_le, List, [], ◌∷◌, Option, Some, None}
use Rattle.kr_base.specs.Attributes.{is_name}
use Rattle.kr_base.specs.declared.ids.PromptId.{PromptId}
use Rattle.service_prompts.specs.folder_store.specs.Limits.{the_limits}
use Rattle.prompt_state.specs.declared.row.PromptKind.{PromptKind}
use Rattle.prompt_state.specs.declared.row.PromptKind.TheVariants as kind
use Rattle.prompt_state.specs.declared.row.PromptRow.{PromptRow}
use Rattle.prompt_state.specs.declared.targets.Target.{Target}
use Rattle.prompt_state.specs.Prompts.{is_deriving_in}
use Rattle.service_events.specs.PublicBody as public
use Rattle.service_disk.specs.declared.opening.Opening.{Opening}
use Rattle.service_disk.specs.declared.opening.Opening.TheVariants as ends
use Rattle.service_prompts.specs.service_tables.specs.declared.fate.StoreFate.{StoreFate}
use Rattle.service_prompts.specs.service_tables.specs.declared.fate.StoreFate.TheVariants as fate
use Rattle.service_events.specs.AliasCalls.{alias_settled}
use Rattle.service_events.specs.Plan.{KeyTerms, Questions, Change, Plan, Asks, Opens, Ask_prompt, Clear_wrong, Count_wrong, End_prompt, Go_on, Make, Rekey, answered, followed}

-- at so many wrong answers, one after the other, the prompt ends
abbrev pub most_wrong_answers : ℕ
most_wrong_answers = 3

-- how often a new password is hashed, of a new collection or of one whose password is changed
abbrev pub new_iterations : ℕ
new_iterations = 10000

-- these changes, to which the caller gets no answer
abbrev pub quietly : List Change → Plan
quietly changes = answered public.Empty changes

-- the prompt ends dismissed
abbrev pub dismissing : PromptId → Plan
dismissing prompt = quietly (End_prompt prompt true None ∷ [])

-- ---- a prompt that unlocks

-- one more wrong answer to a prompt that has so many: the prompt ends dismissed, or is asked again
abbrev pub wrong_again : PromptId → ℕ → Plan
wrong_again prompt wrong =
    if nat_le most_wrong_answers (wrong + 1)
    then dismissing prompt
    else quietly (Count_wrong prompt ∷ Ask_prompt prompt ∷ [])

-- by how the collection of its target opens with the key
abbrev pub opening_ended : PromptId → ℕ → List ℕ → KeyTerms → Opening → Plan
opening_ended prompt wrong stem terms ends.Settled = quietly (Go_on prompt ∷ [])
opening_ended prompt wrong stem terms ends.Unfit = quietly (Ask_prompt prompt ∷ [])
opening_ended prompt wrong stem terms ends.WrongPassword = wrong_again prompt wrong
opening_ended prompt wrong stem terms ends.Damaged = dismissing prompt
opening_ended prompt wrong stem terms ends.Opened = Opens stem terms (quietly (Clear_wrong prompt ∷ Go_on prompt ∷ []))

-- the same for the first target that is left
abbrev pub left_derived : PromptId → ℕ → List Target → KeyTerms → Questions → Plan
left_derived prompt wrong [] terms asked = quietly (Go_on prompt ∷ [])
left_derived prompt wrong (target ∷ left) terms asked = opening_ended prompt wrong target.stem terms (asked.files.opening terms target.stem)

-- ---- a prompt that creates a collection

-- whether these are the terms of the work: the salt of the prompt, and the iterations of a new password
abbrev pub are_terms : List ℕ → KeyTerms → Bool
are_terms salt terms = is_name terms.salt salt && terms.iterations == new_iterations

-- whether a collection of this label can be made: the terms are those of the work, one more collection may be there, and there is room
abbrev pub can_make : List ℕ → List ℕ → KeyTerms → Questions → Bool
can_make label salt terms asked =
    are_terms salt terms && (nat_le (asked.collections.count + 1) the_limits.collections && asked.files.has_room terms label)

-- the prompt ends completed, with the collection that it created or whose password it changed
abbrev pub completing : PromptId → List ℕ → List Change
completing prompt stem = End_prompt prompt false (Some stem) ∷ []

-- the prompt ends completed after its alias, if one is given, was set as by SetAlias, whatever that answers
abbrev pub alias_given : PromptId → List ℕ → List ℕ → Plan
alias_given prompt [] stem = quietly (completing prompt stem)
alias_given prompt (byte ∷ bytes) stem = followed (completing prompt stem) (alias_settled (byte ∷ bytes) (Some stem))

-- by how making the collection ended: if it isn't stored, or that isn't known, the prompt ends dismissed
abbrev pub making_ended : PromptId → List ℕ → List ℕ → StoreFate → Plan
making_ended prompt alias stem fate.Stored = alias_given prompt alias stem
making_ended prompt alias stem fate.Before = dismissing prompt
making_ended prompt alias stem fate.Unsure = dismissing prompt

-- a collection of this label is made under the first stem that is free, with the key
abbrev pub collection_made : PromptId → List ℕ → List ℕ → List ℕ → KeyTerms → Questions → Plan
collection_made prompt label alias salt terms asked =
    if can_make label salt terms asked
    then Asks (Make (asked.files.stem_for label) label terms) (making_ended prompt alias (asked.files.stem_for label))
    else dismissing prompt

-- ---- a prompt that changes a password

-- by how the storing of the collection under the new key ended: if it isn't stored, or that isn't known, the prompt ends dismissed
abbrev pub changing_ended : PromptId → List ℕ → StoreFate → Plan
changing_ended prompt stem fate.Stored = quietly (completing prompt stem)
changing_ended prompt stem fate.Before = dismissing prompt
changing_ended prompt stem fate.Unsure = dismissing prompt

-- the collection is stored under the key, if it is unlocked and there is room
abbrev pub stored_under : PromptId → List ℕ → KeyTerms → Questions → Plan
stored_under prompt stem terms asked = if asked.files.can_rekey terms stem then Asks (Rekey stem terms) (changing_ended prompt stem) else dismissing prompt

-- the same if the terms are those of the work
abbrev pub password_changed : PromptId → List ℕ → List ℕ → KeyTerms → Questions → Plan
password_changed prompt stem salt terms asked = if are_terms salt terms then stored_under prompt stem terms asked else dismissing prompt

-- ---- any

-- by what the prompt is for
abbrev pub kind_derived : PromptId → ℕ → PromptKind → KeyTerms → Questions → Plan
kind_derived prompt wrong (kind.Unlock targets) terms asked = left_derived prompt wrong targets.left terms asked
kind_derived prompt wrong (kind.Create label alias salt) terms asked = collection_made prompt label alias salt terms asked
kind_derived prompt wrong (kind.Change stem salt) terms asked = password_changed prompt stem salt terms asked

-- the same for a prompt whose key is derived in the round; otherwise nothing happens
abbrev pub row_derived : PromptId → ℕ → Option PromptRow → KeyTerms → Questions → Plan
row_derived prompt round None terms asked = quietly []
row_derived prompt round (Some row) terms asked = if is_deriving_in round row.stage then kind_derived prompt row.wrong row.kind terms asked else quietly []

-- a key was derived for the prompt, in this round and with these terms
abbrev pub derived : PromptId → ℕ → KeyTerms → Questions → Plan
derived prompt round terms asked = row_derived prompt round (asked.prompts.row prompt) terms asked
