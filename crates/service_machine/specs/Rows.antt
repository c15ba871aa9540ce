-- The state that a machine is in, and its disk.
use Rattle.service_answers.specs.service_calls.specs.Rows.{disk_of as disk_with, rows_of as rows_in}
use Rattle.service_machine.specs.declared.machine.Machine.{Machine}
use Rattle.service_answers.specs.service_tables.specs.Disk.{DiskState}
use Rattle.service_answers.specs.service_tables.specs.Opened.{Contents}
use Rattle.service_answers.specs.service_tables.specs.State.{State}
use Rattle.std.specs.Prelude.{None, []}

-- a machine's state: the rows of its tables
abbrev pub rows_of : {F S : Type 0} → Machine F S → State
rows_of machine = rows_in machine.tables

-- a machine's folder, with the slots that were made of it
abbrev pub disk_of : {F S : Type 0} → Machine F S → DiskState F S
disk_of machine = disk_with machine.tables

-- no collection, no aliases, whose file is left alone, and no used stem
abbrev pub no_contents : Contents
no_contents = record { collections = []; aliases = None; used = [] }
