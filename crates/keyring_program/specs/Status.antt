-- How the program ends (docs/DECISIONS.md, "Numbers and texts of the ends").
use Rattle.std.specs.Prelude.{ℕ}
use Rattle.service_hub.specs.connection_worker.specs.declared.ending.End.{End}
use Rattle.service_hub.specs.connection_worker.specs.declared.ending.End.TheVariants as end
use Rattle.service_hub.specs.daemon.specs.declared.accepting.LoopEnd.{LoopEnd}
use Rattle.service_hub.specs.daemon.specs.declared.accepting.LoopEnd.TheVariants as loop
use Rattle.ring_check.specs.declared.ending.CheckEnd.{CheckEnd}
use Rattle.ring_check.specs.declared.ending.CheckEnd.TheVariants as checked
use Rattle.keyring_program.specs.declared.first_line.LineRefused.{LineRefused}
use Rattle.keyring_program.specs.declared.first_line.LineRefused.TheVariants as line
use Rattle.keyring_program.specs.declared.status.Status.{Status}
use Rattle.keyring_program.specs.declared.status.Status.TheVariants as status

-- the exit number of the process
abbrev pub number_of : Status → ℕ
number_of status.Done = 0
number_of status.Usage = 2
number_of status.ReadFault = 3
number_of status.WriteFault = 4
number_of status.FolderFault = 5
number_of status.Damaged = 6
number_of (status.Violation cause) = 7
number_of (status.AuthRefused why) = 8
number_of status.Memory = 9
number_of status.ListenFault = 10
number_of status.EventsSpent = 11
number_of status.PasswordTooLong = 13
number_of status.Overrun = 18

-- serving the only connection of a service may end in this way: nobody else ends it
abbrev pub IsOnlyEnd : End → Type 0
IsOnlyEnd end.OtherEnded = ⊥
IsOnlyEnd _ = Unit {0}

-- a command that serves the standard streams may end in this way
abbrev pub IsStdioStatus : Status → Type 0
IsStdioStatus status.Usage = ⊥
IsStdioStatus status.ListenFault = ⊥
IsStdioStatus status.Damaged = ⊥
IsStdioStatus status.PasswordTooLong = ⊥
IsStdioStatus _ = Unit {0}

-- a command that serves the links of a door may end in this way
abbrev pub IsServeStatus : Status → Type 0
IsServeStatus status.Done = Unit {0}
IsServeStatus status.FolderFault = Unit {0}
IsServeStatus status.ListenFault = Unit {0}
IsServeStatus status.Memory = Unit {0}
IsServeStatus _ = ⊥

-- a command that serves a client in memory may end in this way
abbrev pub IsLoadStatus : Status → Type 0
IsLoadStatus status.Done = Unit {0}
IsLoadStatus status.WriteFault = Unit {0}
IsLoadStatus status.Memory = Unit {0}
IsLoadStatus _ = ⊥

-- it may end in this way before the door is open
abbrev pub IsUnservedStatus : Status → Type 0
IsUnservedStatus status.FolderFault = Unit {0}
IsUnservedStatus status.ListenFault = Unit {0}
IsUnservedStatus status.Memory = Unit {0}
IsUnservedStatus _ = ⊥

-- a check of a folder may end in this way
abbrev pub IsCheckStatus : Status → Type 0
IsCheckStatus status.Done = Unit {0}
IsCheckStatus status.ReadFault = Unit {0}
IsCheckStatus status.WriteFault = Unit {0}
IsCheckStatus status.FolderFault = Unit {0}
IsCheckStatus status.Damaged = Unit {0}
IsCheckStatus status.Memory = Unit {0}
IsCheckStatus status.PasswordTooLong = Unit {0}
IsCheckStatus _ = ⊥

-- it may end in this way before its folder is open
abbrev pub IsUncheckedStatus : Status → Type 0
IsUncheckedStatus status.ReadFault = Unit {0}
IsUncheckedStatus status.FolderFault = Unit {0}
IsUncheckedStatus status.Memory = Unit {0}
IsUncheckedStatus status.PasswordTooLong = Unit {0}
IsUncheckedStatus _ = ⊥

-- the status of a check that ended in this way once its folder was open
abbrev pub status_of_check : CheckEnd → Status
status_of_check checked.Done = status.Done
status_of_check checked.Damaged = status.Damaged
status_of_check checked.FolderFault = status.FolderFault
status_of_check checked.WriteFault = status.WriteFault
status_of_check checked.Memory = status.Memory

-- the status of a check whose password couldn't be read
abbrev pub status_of_line : LineRefused → Status
status_of_line line.Failed = status.ReadFault
status_of_line line.TooLong = status.PasswordTooLong
status_of_line line.OutOfMemory = status.Memory

-- the status of a run over whose links the loop ended in this way
abbrev pub status_of_loop : LoopEnd → Status
status_of_loop loop.Ended = status.Done
status_of_loop loop.Reached = status.Done
status_of_loop loop.ListenFault = status.ListenFault
status_of_loop loop.Memory = status.Memory

-- the status of a run whose connection ended in this way; the last row is for that for which no memory was left, and for the one that can't come
abbrev pub status_of : End → Status
status_of end.Done = status.Done
status_of (end.Violation cause) = status.Violation cause
status_of (end.AuthRefused why) = status.AuthRefused why
status_of end.ReadFault = status.ReadFault
status_of end.WriteFault = status.WriteFault
status_of end.EventsSpent = status.EventsSpent
status_of end.Overrun = status.Overrun
status_of _ = status.Memory
