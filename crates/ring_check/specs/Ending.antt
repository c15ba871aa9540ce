-- How a check ends.
use Rattle.std.specs.Prelude.{Bool, true, false, Result, Ok, Err}
use Rattle.ring_check.specs.declared.ending.CheckEnd.{CheckEnd}
use Rattle.ring_check.specs.declared.ending.CheckEnd.TheVariants as end
use Rattle.ring_check.specs.declared.ending.Stop.{Stop}
use Rattle.ring_check.specs.declared.ending.Stop.TheVariants as stop

-- the end of a check that found whether a file is damaged, or stopped before its end
abbrev pub end_of : Result Bool Stop → CheckEnd
end_of (Ok true) = end.Damaged
end_of (Ok false) = end.Done
end_of (Err stop.Folder) = end.FolderFault
end_of (Err stop.Write) = end.WriteFault
end_of (Err stop.Memory) = end.Memory
