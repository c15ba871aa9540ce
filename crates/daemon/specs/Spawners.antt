-- Starting jobs and finishing them: which jobs were started and aren't finished, and what was refused.
use Rattle.std.specs.Prelude.{◌≡◌, ℕ, ◌≤◌, List, [], ◌∷◌, Option, None, Some}
use Rattle.kr_outside.specs.Faults.{Rose}
use Rattle.kr_outside.specs.Host.{GivesOne}
use Rattle.daemon.specs.declared.started.StartRefused.{StartRefused}
use Rattle.daemon.specs.declared.started.StartRefused.TheVariants as refusal

-- a spawner, as contracts see it
pub record Spawning (J : Type 0) : Type 0 where
  -- the jobs that were started and aren't finished, in order
  pub started : List J
  -- how often the spawner has failed, and how many starts it refused; both counts stay at 2^64 - 1
  pub faults : ℕ
  pub unstarted : ℕ

-- a spawner that has started nothing yet
abbrev pub idle : {J : Type 0} → Spawning J
idle = record { started = []; faults = 0; unstarted = 0 }

-- a refusal hands the job back
abbrev pub HandsBack : {J : Type 0} → J → StartRefused J → Type 0
HandsBack job (refusal.Failed back) = back ≡ job
HandsBack job (refusal.OutOfMemory back) = back ≡ job

-- why a start was refused: the spawner failed, if its count of faults rose; or memory ran out
abbrev pub HasCause : {J : Type 0} → StartRefused J → ℕ → ℕ → Type 0
HasCause (refusal.Failed back) old new = Rose old new × (old ≤ new)
HasCause (refusal.OutOfMemory back) old new = new ≡ old

-- A job wasn't started: it is handed back, the refusal is counted and has its cause, and nothing else has changed.
pub record IsUnstarted {J : Type 0} (job : J) (refused : StartRefused J) (old new : Spawning J) : Type 0 where
  pub back : HandsBack job refused
  pub started : new.started ≡ old.started
  pub counted : GivesOne old.unstarted new.unstarted
  pub cause : HasCause refused old.faults new.faults

-- The oldest job was finished, and its result is in the job's relation to it; or there is no job that isn't finished.
abbrev pub Finishes : {J S : Type 0} → (J → S → Type 0) → Spawning J → Spawning J → Option S → Type 0
Finishes Serves old new None = (old.started ≡ []) × (new ≡ old)
Finishes {J} Serves old new (Some served) = (job : J) × (old ≡ record new { started = job ∷ new.started }) × Serves job served
