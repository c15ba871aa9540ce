-- The desks that jobs hand back are of the service that the hub's are of.
use Rattle.std.proofs.Common.{◌≡◌, ℕ, inl, inr, Bool, List, [], ◌∷◌, Option, Result, Ok, Err, sym, ap, ◌∙◌, subst}
use Rattle.std.specs.List.{AllByRecursion, AllZip, FoldsTo}
use Rattle.dbus_framing.specs.Framers.{Framing}
use Rattle.shared_service.specs.service_desk.specs.Calls.{Goes}
use Rattle.shared_service.specs.service_desk.specs.Places.{Told, Home, Place}
use Rattle.shared_service.specs.service_desk.specs.Views.{View}
use Rattle.shared_service.specs.service_tables.proofs.EachLemmas.{each-append}
use Rattle.daemon.specs.connection_worker.specs.declared.ending.End.{End}
use Rattle.daemon.specs.connection_worker.specs.Handshakes.{Both}
use Rattle.daemon.specs.declared.job.Served.{Served}
use Rattle.daemon.specs.Accepts.{Round, Unjoined, Unstarted, Started, World, IsJobOf, IsRound, Rounds}
use Rattle.daemon.specs.Jobs.{Job, Serves, Follows}

-- a desk that recorded that its connection is gone is of the same service, with the same passes
goes-home : (old new : Place) → Goes old new → new.told.home ≡ old.told.home
goes-home old new (inl recorded) = recorded.same.home
goes-home old new (inr none) = none.0.same.home

module _ {A B C I O : Type 0} (read_told : A → Told) (read_seen : A → View → Type 0) (write_told : B → Told) (write_seen : B → View → Type 0) (coming : C → Option (ℕ → ℕ)) (left : I → Option (List ℕ)) (in_faults : I → ℕ) (in_steady in_closed : I → Bool) (written : O → Option (List ℕ)) (out_faults : O → ℕ) (out_steady out_closed : O → Bool) (home : Option Home) where
  -- both desks are of the service
  abbrev pub IsHome : A → B → Type 0
  IsHome reader writer = ((read_told reader).home ≡ home) × ((write_told writer).home ≡ home)

  abbrev One : Job A B C I O → Served A B I O → Type 0
  One = Serves read_told read_seen write_told write_seen coming left in_faults in_steady in_closed written out_faults out_steady out_closed

  follows-home : (job : Job A B C I O) (streams ends : Both) (served : Served A B I O) (outcome : Result Framing End)
      → Follows read_told read_seen write_told write_seen coming left in_faults in_steady in_closed written out_faults out_steady out_closed job streams ends served outcome
      → IsHome job.reader job.writer → IsHome served.reader served.writer
  follows-home job streams ends served (Ok has) both home_is = (both.reader.recorded.same.home ∙ home_is.0, both.writer.recorded.same.home ∙ home_is.1)
  follows-home job streams ends served (Err how) turned home_is = (ap (λ r. (read_told r).home) turned.reader ∙ home_is.0, goes-home _ _ turned.gone ∙ home_is.1)

  served-home : (jobs : List (Job A B C I O)) (results : List (Served A B I O)) → AllZip One jobs results → AllByRecursion (λ (j : Job A B C I O). IsHome j.reader j.writer) jobs
      → AllByRecursion (λ (s : Served A B I O). IsHome s.reader s.writer) results
  served-home [] [] all home_is = tt
  served-home [] (s ∷ ss) all home_is = elim all [ ]
  served-home (j ∷ js) [] all home_is = elim all [ ]
  served-home (j ∷ js) (s ∷ ss) all home_is = (
    follows-home j all.0.streams all.0.ends s all.0.outcome all.0.follows home_is.0,
    served-home js ss all.1 home_is.1,
  )

  module _ (uid : ℕ) (guid seed : List ℕ) (P : Job A B C I O → Type 0) (made : (old new : View) (job : Job A B C I O) → IsJobOf read_told read_seen write_told write_seen uid guid seed home job old new → P job) where
    abbrev Step : World (Job A B C I O) → Round A B C I O → World (Job A B C I O) → Type 0
    Step = IsRound read_told read_seen write_told write_seen left in_faults in_steady in_closed written out_faults out_steady out_closed uid guid seed home

    step-all : (old new : World (Job A B C I O)) (round : Round A B C I O) → Step old round new → AllByRecursion P old.standing.started → AllByRecursion P new.standing.started
    step-all old new (Unjoined why input output) step all = subst (AllByRecursion P) (sym step.admitted.started) all
    step-all old new (Unstarted job gone) step all = subst (AllByRecursion P) (sym step.admitted.started) all
    step-all old new (Started job) step all =
        subst (AllByRecursion P) (sym step.admitted.started)
        (each-append P old.standing.started (job ∷ []) all (made old.standing.view new.standing.view job step.admitted.made, tt))

    -- what is true of each new connection's job is true of all jobs that were started
    pub started-all : (old new : World (Job A B C I O)) (rounds : List (Round A B C I O)) → FoldsTo Step old rounds new → AllByRecursion P old.standing.started
        → AllByRecursion P new.standing.started
    started-all old new [] run all = subst (λ (w : World (Job A B C I O)). AllByRecursion P w.standing.started) run all
    started-all old new (round ∷ rounds) (mid, step, run) all = started-all mid new rounds run (step-all old mid round step all)

  -- so the desks of all results are of the service
  pub results-home : (uid : ℕ) (guid seed : List ℕ) (old last : World (Job A B C I O)) (rounds : List (Round A B C I O)) (results : List (Served A B I O))
      → Rounds read_told read_seen write_told write_seen left in_faults in_steady in_closed written out_faults out_steady out_closed uid guid seed home old rounds last
      → old.standing.started ≡ [] → AllZip One last.standing.started results → AllByRecursion (λ (s : Served A B I O). IsHome s.reader s.writer) results
  results-home uid guid seed old last rounds results run idle served =
      served-home last.standing.started results served
      (started-all uid guid seed (λ (j : Job A B C I O). IsHome j.reader j.writer) (λ old new job is. (is.reader.home_is, is.writer.home_is)) old last rounds run
      (subst (AllByRecursion (λ (j : Job A B C I O). IsHome j.reader j.writer)) (sym idle) tt))
