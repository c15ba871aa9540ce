-- What a prompt is for, as far as a derived key needs it.
use Rattle.std.specs.Prelude.{◌≡◌, ◌⊎◌, ℕ, List, [], Option, Some, None}
use Rattle.std.specs.Option.{option_map}
use Rattle.service_calls.specs.alias_table.specs.Table.{AliasRows, Change}
use Rattle.service_calls.specs.collection_table.specs.Rows.{Rows}
use Rattle.prompt_state.specs.Targets.{first_left}
use Rattle.prompt_state.specs.declared.row.PromptKind.{PromptKind}
use Rattle.prompt_state.specs.declared.row.PromptKind.TheVariants as kind
use Rattle.prompt_state.specs.declared.row.PromptRow.{PromptRow}
use Rattle.prompt_state.specs.declared.targets.Target.{Target}
use Rattle.service_calls.specs.service_tables.specs.Aliases.{IsPreparedIn}
use Rattle.service_answers.specs.declared.derived_key.Purpose.{Purpose}
use Rattle.service_answers.specs.declared.derived_key.Purpose.TheVariants as purpose

-- what a kind of prompt is for: the first target that is left, the collection that it creates, or the one whose password it changes
abbrev pub purpose_of : PromptKind → Purpose
purpose_of (kind.Unlock targets) = purpose.Unlock (option_map (λ (target : Target). target.stem) (first_left targets))
purpose_of (kind.Create label alias salt) = purpose.Create label alias salt
purpose_of (kind.Change stem salt) = purpose.Change stem salt

-- it is what the prompt of this row is for, if it is there
abbrev pub IsPurposeOf : Purpose → Option PromptRow → Type 0
IsPurposeOf it None = ⊥
IsPurposeOf it (Some row) = it ≡ purpose_of row.kind

-- the change that was prepared sets the alias of a new collection; there is none if no alias is given, or the file of the aliases was left alone
abbrev pub SetsAlias : List ℕ → List ℕ → Rows → Option AliasRows → Option Change → Type 0
SetsAlias alias stem collections aliases None = (alias ≡ []) ⊎ (aliases ≡ None)
SetsAlias alias stem collections aliases (Some change) = (¬ (alias ≡ [])) × IsPreparedIn alias (Some stem) collections change aliases
