-- What is found in the kinds that are left is found in all.
use Rattle.std.proofs.Common.{◌≡◌, drop}
use Rattle.std.specs.List.{find}
use Rattle.client_core.specs.Signals.{is_kind}
use Rattle.client_core.proofs.signals.first_kind.Given as goal

abbrev pub invariant-loop-kind : goal.invariant-loop-kind
invariant-loop-kind l = find (is_kind l.interface l.name) (drop l.kind-index l.kinds) ≡ find (is_kind l.interface l.name) l.kinds
