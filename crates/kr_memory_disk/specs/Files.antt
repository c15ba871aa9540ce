-- Files in memory, by their names.
use Rattle.std.specs.Prelude.{ℕ, nat_eq, List, [], ◌∷◌, map, cond, None, Some}
use Rattle.std.specs.List.{IsDistinct}
use Rattle.std.specs.Cmp.Lexicographic.{pointwise}
use Rattle.kr_outside.specs.RenameDisk.{Image}
use Rattle.kr_memory_disk.specs.declared.files.MemoryFile.{MemoryFile}

-- what a name stands for among these files
abbrev pub image_in : List MemoryFile → List ℕ → Image
image_in [] name = None
image_in (file ∷ files) name =
    cond (pointwise nat_eq file.name name) (Some file.bytes) (image_in files name)

-- the names of the files
abbrev pub names_of : List MemoryFile → List (List ℕ)
names_of files = map (λ file. file.name) files

-- no two files have one name
abbrev pub HasDistinctNames : List MemoryFile → Type 0
HasDistinctNames files = IsDistinct (pointwise nat_eq) (names_of files)
