-- What a contract sees of the listeners in memory.
use Rattle.std.specs.Prelude.{ℕ, Bool, ◌&&◌, List, Option, All}
use Rattle.kr_outside.specs.Listener.{LinkReport, IsNewEnd}
use Rattle.kr_outside.specs.declared.listener.Link.{Link}
use Rattle.kr_memory.specs.Plan.{FailingPlan}

-- a listener that fails as planned: its path, the links left, its plan, how many links it has given, and whether it
-- has ended
pub record LinksState (I O : Type 0) : Type 0 where
  pub address : List ℕ
  pub links : List (Link I O)
  pub plan : FailingPlan
  pub given : ℕ
  pub has_ended : Bool

-- a listener that never fails: its path, the links left, how many links it has given, and whether it has ended
pub record SteadyLinksState (I O : Type 0) : Type 0 where
  pub address : List ℕ
  pub links : List (Link I O)
  pub given : ℕ
  pub has_ended : Bool

-- what is reported of a link, whose ends are seen by these meanings
abbrev pub report_of : {I O : Type 0} → (I → Option (List ℕ)) → (I → Bool) → (O → Option (List ℕ)) → (O → Bool) → Link I O → LinkReport
report_of left is_steady_in written is_steady_out link = record {
  left = left link.input;
  written = written link.output;
  is_steady = is_steady_in link.input && is_steady_out link.output;
}

-- both ends of the link are open, and haven't failed yet
abbrev pub IsNewLink : {I O : Type 0} → (I → Bool) → (I → ℕ) → (O → Bool) → (O → ℕ) → Link I O → Type 0
IsNewLink is_closed_in faults_in is_closed_out faults_out link =
    IsNewEnd (is_closed_in link.input) (faults_in link.input) × IsNewEnd (is_closed_out link.output) (faults_out link.output)

-- each of the links is such a one
abbrev pub AreNew : {I O : Type 0} → (I → Bool) → (I → ℕ) → (O → Bool) → (O → ℕ) → List (Link I O) → Type 0
AreNew is_closed_in faults_in is_closed_out faults_out links =
    All (IsNewLink is_closed_in faults_in is_closed_out faults_out) links
