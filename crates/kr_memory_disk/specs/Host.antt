-- Hosts in memory.
use Rattle.std.specs.Prelude.{◌≡◌, ℕ, nat_eq, Bool, false, IsFalse, List, [], Option, None, cond, IfSome}
use Rattle.std.specs.Option.{option_map}
use Rattle.std.specs.Cmp.Lexicographic.{pointwise}
use Rattle.kr_outside.specs.RenameDisk.{Image}
use Rattle.kr_outside.specs.Host.{ShutDoors}
use Rattle.kr_memory_disk.specs.declared.files.MemoryFile.{MemoryFile}
use Rattle.kr_memory_disk.specs.Files.{image_in}
use Rattle.kr_memory_disk.specs.Folder.{FolderState}
use Rattle.kr_memory_disk.specs.Plan.{PlannedCalls}

-- a host that fails as planned: the path of its folder, the folder until it is opened, the path of its door and the
-- door until it is opened, the moments of its clock, the plan of its calls, how many folders it has opened, and what
-- it reports of the doors that it took back
pub record HostState (Door : Type 0) : Type 0 where
  pub path : List ℕ
  pub dir : Option FolderState
  pub door : Option (List ℕ × Door)
  pub clock : List ℕ
  pub calls : PlannedCalls
  pub given : ℕ
  pub shut_doors : ShutDoors

-- no slot of the folder was made
abbrev pub IsFresh : Option FolderState → Type 0
IsFresh dir = IfSome dir (λ folder. folder.made ≡ [])

-- the door has given no link, and hasn't ended
abbrev pub IsUnused : {Door : Type 0} → (Door → ℕ) → (Door → Bool) → Door → Type 0
IsUnused given has_ended door = (given door ≡ 0) × IsFalse (has_ended door)

-- no door was taken back yet
abbrev pub none_shut : ShutDoors
none_shut = record { count = 0; address = []; given = 0; has_ended = false }

-- what the names of the folder at a path stand for, which it reports only for its one folder
abbrev pub host_tells : {Door : Type 0} → HostState Door → List ℕ → Option (List ℕ → Image)
host_tells host path =
    cond (pointwise nat_eq host.path path) (option_map (λ folder name. image_in folder.files name) host.dir) None

-- a host that never fails: the files of its folders, the room of their slots, its next door, its moments, how many
-- folders it has opened, and what it reports of the doors that it took back
pub record SteadyHostState (Door : Type 0) : Type 0 where
  pub files : List MemoryFile
  pub room : ℕ
  pub door : Door
  pub clock : List ℕ
  pub given : ℕ
  pub shut_doors : ShutDoors
