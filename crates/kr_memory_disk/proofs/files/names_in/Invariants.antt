use Rattle.std.proofs.Common.{◌≡◌, take}
use Rattle.kr_memory_disk.specs.Files.{names_of}
use Rattle.kr_memory_disk.proofs.files.names_in.Given as goal

-- the names of the files so far
abbrev pub invariant-loop-file : goal.invariant-loop-file
invariant-loop-file l = l.names.items ≡ names_of (take l.file-index l.files)
