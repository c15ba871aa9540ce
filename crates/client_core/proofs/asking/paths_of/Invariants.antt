-- The paths so far are those of the names so far.
use Rattle.std.proofs.Common.{◌≡◌, map, take}
use Rattle.kr_names.specs.Path.{path_text}
use Rattle.client_core.proofs.asking.paths_of.Given as goal

abbrev pub invariant-loop-name : goal.invariant-loop-name
invariant-loop-name l = l.paths.items ≡ map path_text (take l.name-index l.names)
