use Rattle.std.proofs.Common.{◌≡◌, take}
use Rattle.kr_memory_disk.proofs.files.copies.Given as goal

-- the files so far
abbrev pub invariant-loop-file : goal.invariant-loop-file
invariant-loop-file l = l.copied.items ≡ take l.file-index l.files
