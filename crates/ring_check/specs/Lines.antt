-- The line of one file in the report (docs/KEYRING_FILES.md, "Checking a folder").
use Rattle.std.specs.Prelude.{ℕ, List, [], ◌∷◌, ◌++◌, decimal, codes}
use Rattle.std.specs.List.{flat_map}
use Rattle.keyring_file.specs.declared.fault.AreaFault.{AreaFault}
use Rattle.keyring_file.specs.declared.fault.AreaFault.TheVariants as area
use Rattle.keyring_file.specs.declared.fault.ClearFault.{ClearFault}
use Rattle.keyring_file.specs.declared.fault.ClearFault.TheVariants as clear
use Rattle.ring_check.specs.Time.{time_text}
use Rattle.ring_check.specs.declared.verdict.Row.{Row}
use Rattle.ring_check.specs.declared.verdict.Row.TheVariants as row
use Rattle.ring_check.specs.declared.verdict.Summary.{Summary}
use Rattle.ring_check.specs.declared.verdict.Verdict.{Verdict}

-- the name of a fault of a clear part
abbrev pub clear_name : ClearFault → List ℕ
clear_name clear.Magic = codes "Magic"
clear_name clear.Version = codes "Version"
clear_name clear.Short = codes "Short"
clear_name clear.BadText = codes "BadText"
clear_name clear.TooManyIterations = codes "TooManyIterations"
clear_name clear.AreaLength = codes "AreaLength"
clear_name clear.Trailing = codes "Trailing"
clear_name clear.DuplicateId = codes "DuplicateId"
clear_name clear.BadKind = codes "BadKind"
clear_name clear.DuplicateName = codes "DuplicateName"

-- the name of a fault of an area
abbrev pub area_name : AreaFault → List ℕ
area_name area.CheckDiffers = codes "CheckDiffers"
area_name area.Short = codes "Short"
area_name area.BadText = codes "BadText"
area_name area.BadKind = codes "BadKind"
area_name area.DuplicateName = codes "DuplicateName"

-- the number of items, and the two times
unfoldable pub summary_text : Summary → List ℕ
summary_text s =
    decimal s.items ++ codes " items, created " ++ time_text s.created ++ codes ", modified " ++ time_text s.modified

-- what a line says after the file's name
unfoldable pub row_text : Row → List ℕ
row_text (row.Sound summary) = codes "ok " ++ summary_text summary
row_text row.TooLarge = codes "TooLarge"
row_text (row.Clear found) = clear_name found
row_text (row.OtherPassword summary) = codes "other password, " ++ summary_text summary
row_text (row.Area found) = codes "area " ++ area_name found

-- the line of a verdict
unfoldable pub line_of : Verdict → List ℕ
line_of verdict = verdict.name ++ codes ": " ++ row_text verdict.row ++ 10 ∷ []

-- the lines of verdicts, in order
abbrev pub report_of : List Verdict → List ℕ
report_of verdicts = flat_map line_of verdicts
