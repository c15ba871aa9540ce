-- What a row of the table of calls may ask of the collections, of the aliases and of the prompts. No answer shows the value of a secret.
use Rattle.std.specs.Prelude.{ℕ, Bool, List, Option}
use Rattle.kr_base.specs.declared.attributes.AttrValue.{AttrValue}
use Rattle.kr_base.specs.declared.ids.ItemId.{ItemId}
use Rattle.kr_base.specs.declared.ids.PromptId.{PromptId}
use Rattle.collection_table.specs.declared.matches.Matches.{Matches}
use Rattle.prompt_state.specs.declared.row.PromptRow.{PromptRow}
use Rattle.prompt_state.specs.declared.table.PromptRefused.{PromptRefused}
use Rattle.signal_fanout.specs.secret_calls.specs.declared.property.Attribute.{Attribute}
use Rattle.service_tables.specs.declared.times.Times.{Times}

-- what may be asked of the collections, and which of them an alias stands for
pub record CollectionQuestions : Type 0 where
  -- the stem that an alias stands for, if there is a collection of that stem
  pub alias : List ℕ → Option (List ℕ)
  -- how many collections there are
  pub count : ℕ
  -- the stems of the collections, in byte order
  pub stems : List (List ℕ)
  -- whether there is a collection of the stem
  pub has : List ℕ → Bool
  -- whether there is one, and it is unlocked
  pub is_open : List ℕ → Bool
  -- its label, which is shown while it is locked, too; empty if there is none
  pub label : List ℕ → List ℕ
  -- its times, which are shown while it is locked, too; 0 if there is none
  pub times : List ℕ → Times
  -- whether there is one, and it has the item, locked or not
  pub has_item : List ℕ → ItemId → Bool
  -- the label, the attributes and the times of an item; they are empty and 0 while its collection is locked
  pub item_label : List ℕ → ItemId → List ℕ
  pub item_attributes : List ℕ → ItemId → List Attribute
  pub item_times : List ℕ → ItemId → Times
  -- the items of one collection that match, by rising numbers
  pub found_in : List ℕ → List (List ℕ × AttrValue) → List ItemId
  -- the items of each collection that match, in byte order of the collections' stems
  pub found : List (List ℕ × AttrValue) → List Matches

-- what may be asked of the aliases before one is set
pub record AliasQuestions : Type 0 where
  -- whether the alias of a name can be set to a stem, or removed if there is none: the file wasn't left alone, and there are no more
  -- aliases than may be once those whose collection isn't there are dropped
  pub can_set : List ℕ → Option (List ℕ) → Bool

-- what may be asked of the prompts, about the caller
pub record PromptQuestions : Type 0 where
  -- whether the caller owns the prompt
  pub owns : PromptId → Bool
  -- whether the caller can begin no further prompt
  pub is_full : Bool
  -- the number that the next prompt gets
  pub next : ℕ
  -- the prompt, if it is there
  pub row : PromptId → Option PromptRow
  -- whether the caller is the agent
  pub is_agent : Bool
  -- whether another connection is the agent
  pub is_taken : Bool
  -- why the caller's answer to the prompt in a round is refused, if it is
  pub refusal : PromptId → ℕ → Option PromptRefused
