-- The folder of a run.
use Rattle.std.specs.Prelude.{◌≡◌, ℕ, List}
use Rattle.kr_outside.specs.RenameDisk.{Image}
use Rattle.lone_desk.specs.folder_store.specs.Aliases.{pairs_in}
use Rattle.lone_desk.specs.folder_store.specs.declared.loading.Loaded.{Loaded}
use Rattle.lone_desk.specs.folder_store.specs.Limits.{the_limits}
use Rattle.lone_desk.specs.folder_store.specs.Loads.{opening_of}
use Rattle.lone_desk.specs.folder_store.specs.Opened.{Opening, Opened}
use Rattle.lone_desk.specs.service_tables.specs.Disk.{contents_from}
use Rattle.lone_desk.specs.service_tables.specs.Opened.{Contents}
use Rattle.keyring_program.specs.declared.status.Status.{Status}
use Rattle.keyring_program.specs.declared.status.Status.TheVariants as status

-- what a start makes of these images by name
pub record IsOpened (images : List ℕ → Image) : Type 0 where
  pub opening : Opening
  pub pairs : List (List ℕ × List ℕ)
  pub opened : Opened the_limits images opening pairs

-- a service starts with what was loaded, which is that
pub record HasOpened (S : Type 0) (images : List ℕ → Image) (contents : Contents) : Type 0 where
  pub loaded : Loaded S
  pub opened : Opened the_limits images (opening_of loaded) (pairs_in loaded.aliases)
  pub starts : contents ≡ contents_from loaded

-- a run of a service that ended with this status had its folder open
abbrev pub HadFolder : Status → Type 0
HadFolder status.Usage = ⊥
HadFolder status.FolderFault = ⊥
HadFolder status.Memory = ⊥
HadFolder status.PasswordTooLong = ⊥
HadFolder _ = Unit {0}
