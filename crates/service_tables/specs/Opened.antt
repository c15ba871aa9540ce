-- The service as it starts: with the collections, the aliases and the used stems that its folder has, and nothing else.
use Rattle.std.specs.Prelude.{◌≡◌, ℕ, List, [], Option}
use Rattle.alias_table.specs.Table.{AliasRows}
use Rattle.collection_table.specs.Rows.{Rows}
use Rattle.session_table.specs.Sessions.{no_sessions}
use Rattle.prompt_state.specs.Prompts.{no_prompts}
use Rattle.service_tables.specs.State.{State}

-- what a service starts with: the collections by rising stems, the aliases with their file, None if it was left alone, and the stems that are
-- used, in byte order
pub record Contents : Type 0 where
  pub collections : Rows
  pub aliases : Option AliasRows
  pub used : List (List ℕ)

-- the service as it starts with these
abbrev pub opened_state : Contents → State
opened_state contents = record {
  connections = record { rows = []; next = 1 };
  sessions = no_sessions;
  prompts = no_prompts;
  collections = contents.collections;
  aliases = contents.aliases;
  used = contents.used;
}

-- the collections, the aliases and the used stems of a state
abbrev pub contents_of : State → Contents
contents_of state = record { collections = state.collections; aliases = state.aliases; used = state.used }

-- the state is that of a service as it starts
abbrev pub IsOpened : State → Type 0
IsOpened state = state ≡ opened_state (contents_of state)
