-- What is read of the collections: which of them and which of their items are there, what a search finds, and secrets; and what is
-- read of the prompts.
use Rattle.std.specs.Prelude.{ℕ, if◌then◌else◌, List, [], length, map, Option, Some, None}
use Rattle.std.specs.Map.{keys_of}
use Rattle.std.specs.Option.{option_and_then, option_map, option_map_or}
use Rattle.attribute_match.specs.Match.{text_of}
use Rattle.kr_base.specs.Attributes.{value_at}
use Rattle.kr_base.specs.declared.attributes.AttrValue.{AttrValue}
use Rattle.kr_base.specs.declared.ids.ConnId.{ConnId}
use Rattle.kr_base.specs.declared.ids.ItemId.{ItemId}
use Rattle.kr_base.specs.declared.ids.SessionId.{SessionId}
use Rattle.kr_names.specs.declared.object_name.ObjectName.{ObjectName}
use Rattle.kr_names.specs.declared.object_name.ObjectName.TheVariants as object
use Rattle.kr_names.specs.Naming.{is_alias}
use Rattle.keyring_file.specs.declared.area.FullItem.{FullItem}
use Rattle.kr_names.specs.Path.{path_text}
use Rattle.collection_table.specs.Rows as collections
use Rattle.collection_table.specs.Rows.{CollectionRow, Rows, content_of, found_in_all, has, has_item, is_open, item_of}
use Rattle.prompt_state.specs.Prompts as prompting
use Rattle.prompt_state.specs.declared.row.Prompts.{Prompts}
use Rattle.signal_fanout.specs.secret_calls.specs.declared.property.Attribute.{Attribute}
use Rattle.signal_fanout.specs.secret_calls.specs.declared.secret.ItemSecret.{ItemSecret}
use Rattle.signal_fanout.specs.secret_calls.specs.declared.secret.ReturnedSecret.{ReturnedSecret}
use Rattle.service_tables.specs.Aliases.{pairs_of}
use Rattle.service_tables.specs.Objects.{stem_where}
use Rattle.service_tables.specs.Opened.{Contents}
use Rattle.service_tables.specs.Questions.{CollectionQuestions, PromptQuestions}
use Rattle.service_tables.specs.declared.times.Times.{Times}

-- the stem of an alias, if there is a collection of that stem
abbrev pub stem_there : Rows → Option (List ℕ) → Option (List ℕ)
stem_there rows None = None
stem_there rows (Some stem) = stem_where (has stem rows) stem

-- the collection that an alias stands for
abbrev pub alias_of : List ℕ → Contents → Option (List ℕ)
alias_of alias contents = if is_alias alias then stem_there contents.collections (value_at alias (pairs_of contents.aliases)) else None

-- the label of the collection of a stem, which is shown while it is locked, too; empty if there is none
abbrev pub label_of : List ℕ → Rows → List ℕ
label_of stem rows = option_map_or (λ (row : CollectionRow). row.clear.name) (value_at stem rows) []

-- no times, which are shown of an item while its collection is locked
abbrev pub no_times : Times
no_times = record { created = 0; modified = 0 }

-- the times of a collection
abbrev pub clear_times : CollectionRow → Times
clear_times row = record { created = row.clear.created; modified = row.clear.modified }

-- the times of the collection of a stem, which are shown while it is locked, too; 0 if there is none
abbrev pub times_of : List ℕ → Rows → Times
times_of stem rows = option_map_or clear_times (value_at stem rows) no_times

-- the label of an item; empty while its collection is locked
abbrev pub item_label : List ℕ → ItemId → Rows → List ℕ
item_label stem item rows = option_map_or (λ (full : FullItem). full.label) (item_of stem item.0 rows) []

-- an attribute as it is shown: a number is shown in decimal
abbrev pub shown_attribute : List ℕ × AttrValue → Attribute
shown_attribute pair = record { name = pair.0; value = text_of pair.1 }

-- the attributes of an item; none while its collection is locked
abbrev pub item_attributes : List ℕ → ItemId → Rows → List Attribute
item_attributes stem item rows = option_map_or (λ (full : FullItem). map shown_attribute full.attributes) (item_of stem item.0 rows) []

-- the times of an item
abbrev pub full_times : FullItem → Times
full_times full = record { created = full.created; modified = full.modified }

-- the times of an item; 0 while its collection is locked
abbrev pub item_times : List ℕ → ItemId → Rows → Times
item_times stem item rows = option_map_or full_times (item_of stem item.0 rows) no_times

-- the items of one collection that match
abbrev pub found_in : List ℕ → List (List ℕ × AttrValue) → Rows → List ItemId
found_in stem wanted rows = option_map_or (λ row. (collections.found_in wanted (stem, row)).ids) (value_at stem rows) []

-- the answers to questions about the collections
abbrev pub asked_collections : Contents → CollectionQuestions
asked_collections contents = record {
  alias = λ alias. alias_of alias contents;
  count = length contents.collections;
  stems = keys_of contents.collections;
  has = λ stem. has stem contents.collections;
  is_open = λ stem. is_open stem contents.collections;
  label = λ stem. label_of stem contents.collections;
  times = λ stem. times_of stem contents.collections;
  has_item = λ stem item. has_item stem item.0 contents.collections;
  item_label = λ stem item. item_label stem item contents.collections;
  item_attributes = λ stem item. item_attributes stem item contents.collections;
  item_times = λ stem item. item_times stem item contents.collections;
  found_in = λ stem wanted. found_in stem wanted contents.collections;
  found = λ wanted. found_in_all wanted contents.collections;
}

-- The secret of an item, for a session (Secret Service API draft 0.2, "Secrets"). None if its collection is locked.
abbrev pub secret_of : SessionId → Rows → List ℕ → ItemId → Option ReturnedSecret
secret_of session rows stem item =
    option_and_then
    (λ full. option_map (λ content. record { session = session; value = full.value; content = content }) (content_of stem item.0 rows))
    (item_of stem item.0 rows)

-- the same with the path of the item
abbrev pub item_secret : SessionId → Rows → ObjectName → Option ItemSecret
item_secret session rows (object.Item stem item) =
    option_map (λ secret. record { item = path_text (object.Item stem item); secret = secret }) (secret_of session rows stem item)
item_secret session rows _ = None

-- the answers to a caller's questions about the prompts
abbrev pub asked_prompts : ConnId → Prompts → PromptQuestions
asked_prompts caller prompts = record {
  owns = λ prompt. prompting.owns caller prompt prompts;
  is_full = prompting.is_full caller prompts;
  next = prompts.next;
  row = λ prompt. prompting.row_at prompt prompts;
  is_agent = prompting.is_agent caller prompts;
  is_taken = prompting.is_taken caller prompts.agent;
  refusal = λ prompt round. prompting.refusal prompt round caller prompts;
}
