-- What the service is at a moment: the rows of each table, with no trace of how they are kept.
use Rattle.std.specs.Prelude.{ℕ, List, Option}
use Rattle.alias_table.specs.Table.{AliasRows}
use Rattle.session_table.specs.declared.row.Sessions.{Sessions}
use Rattle.prompt_state.specs.declared.row.Prompts.{Prompts}
use Rattle.collection_table.specs.Rows.{Rows}
use Rattle.service_tables.specs.declared.rows.ConnRows.{ConnRows}

-- the connections, the sessions, the prompts with their agent, the collections by rising stems, the aliases with what is known of
-- their file: None if it was left alone at the start, since it is too long; and the stems that are used, in byte order
pub record State : Type 0 where
  pub connections : ConnRows
  pub sessions : Sessions
  pub prompts : Prompts
  pub collections : Rows
  pub aliases : Option AliasRows
  pub used : List (List ℕ)
