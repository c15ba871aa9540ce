-- What is found in the interfaces that are left is found in all.
use Rattle.std.proofs.Common.{◌≡◌, Some, drop}
use Rattle.std.specs.List.{filter, find}
use Rattle.call_wire.specs.Interfaces.{is_on, means}
use Rattle.call_wire.proofs.interfaces.first_named.Given as goal

abbrev pub invariant-loop-interface : goal.invariant-loop-interface
invariant-loop-interface l =
    find (means (Some l.name)) (filter (λ it. is_on it l.object) (drop l.interface-index l.interfaces)) ≡ find (means (Some l.name)) (filter (λ it. is_on it l.object) l.interfaces)
