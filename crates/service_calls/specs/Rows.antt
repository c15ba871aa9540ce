-- The state that the tables are in, and their disk.
use Rattle.std.specs.Prelude.{ℕ, List, Option, Some, None}
use Rattle.service_events.specs.alias_table.specs.Table.{AliasRows}
use Rattle.service_events.specs.collection_table.specs.Entries.{rows_of as collections_of, without}
use Rattle.service_events.specs.collection_table.specs.Rows.{Rows}
use Rattle.prompt_state.specs.declared.row.Prompts.{Prompts}
use Rattle.session_table.specs.declared.row.Sessions.{Sessions}
use Rattle.service_calls.specs.declared.tables.Tables.{Tables}
use Rattle.service_events.specs.service_tables.specs.Aliases.{rows_in}
use Rattle.service_events.specs.service_tables.specs.Desks.{Table}
use Rattle.service_events.specs.service_tables.specs.Disk.{DiskState, disk_state}
use Rattle.service_events.specs.service_tables.specs.Opened.{Contents}
use Rattle.service_events.specs.service_tables.specs.State.{State}

-- the rows that the tables have
abbrev pub rows_from : Table → Sessions → Prompts → Rows → Option AliasRows → List (List ℕ) → State
rows_from connections sessions prompts collections aliases used = record {
  connections = record { rows = connections.rows; next = connections.next };
  sessions = sessions;
  prompts = prompts;
  collections = collections;
  aliases = aliases;
  used = used;
}

-- the state that the tables are in: their rows
abbrev pub rows_of : {F S : Type 0} → Tables F S → State
rows_of tables = rows_from tables.connections tables.sessions tables.prompts (collections_of tables.disk.collections.entries) (rows_in tables.disk.aliases) tables.disk.used.stems

-- their folder, with the slots that were made of it
abbrev pub disk_of : {F S : Type 0} → Tables F S → DiskState F S
disk_of tables = disk_state tables.disk

-- what is known of the collections and of the aliases, if the collection of this stem were gone
abbrev pub contents_left : Option (List ℕ) → Contents → Contents
contents_left None contents = contents
contents_left (Some stem) contents = record contents { collections = without stem contents.collections }
