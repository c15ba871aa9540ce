-- What a contract sees of a dialer over a source and a sink.
use Rattle.std.specs.Prelude.{ℕ, List, Option}

-- the path that was dialled, the bytes left and written, and the count of faults
pub record Joined : Type 0 where
  pub dialled : Option (List ℕ)
  pub left : Option (List ℕ)
  pub written : Option (List ℕ)
  pub faults : ℕ
