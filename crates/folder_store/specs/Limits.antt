-- How much of a folder is listed (docs/KEYRING_FILES.md, "A folder").
use Rattle.keyring_file.specs.Limits.{file_limit}
use Rattle.folder_store.specs.declared.limits.Limits.{Limits}

-- the limits of `load`
abbrev pub the_limits : Limits
the_limits = record { one_file = file_limit; collections = 1024; items = 100000; all_files = 268435456 }
