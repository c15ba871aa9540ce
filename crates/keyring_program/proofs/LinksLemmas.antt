-- What a run over the links of a door recorded, from what the serving of the links says.
use Rattle.std.proofs.Common.{◌≡◌, ℕ, Bool, List, Option, ap, ◌∙◌, subst}
use Rattle.kr_outside.specs.Host.{ShutDoors, TakesBack}
use Rattle.kr_outside.specs.Listener.{LinkReport}
use Rattle.lone_desk.specs.service_tables.specs.Opened.{Contents, contents_of, opened_state}
use Rattle.lone_desk.specs.service_tables.specs.Sound.{AreSoundContents}
use Rattle.lone_desk.specs.service_tables.specs.State.{State}
use Rattle.lone_desk.specs.service_events.specs.Replay.{replay, Legal}
use Rattle.lone_desk.specs.service_history.specs.History.{History, opened_history}
use Rattle.lone_desk.specs.service_history.specs.Windows.{first_window}
use Rattle.service_hub.specs.shared_service.specs.declared.desk.SharedDesk.{SharedDesk}
use Rattle.service_hub.specs.shared_service.specs.Passes.{Seen, opened}
use Rattle.service_hub.specs.shared_service.proofs.Standing.{state-stands}
use Rattle.service_hub.specs.daemon.specs.declared.accepting.LoopEnd.{LoopEnd}
use Rattle.service_hub.specs.daemon.specs.Jobs.{Job}
use Rattle.service_hub.specs.daemon.specs.Spawners.{Spawning}
use Rattle.service_hub.specs.Links as links
use Rattle.keyring_program.specs.ServerNumber.{guid}
use Rattle.keyring_program.specs.ServesLinks.{ServesDoor}
use Rattle.keyring_program.specs.Status.{status_of_loop}
use Rattle.keyring_program.specs.declared.status.Status.{Status}

-- what the serving of links depends on besides the door and the jobs
record Given : Type 0 where
  uid : ℕ
  number : List ℕ
  seed : List ℕ
  pass : Seen
  unjoined : ℕ
  given : ℕ

-- the first pass of a service that starts in this state
pub first-pass : (pass : Seen) (steady : Bool) (history : History) (whole : Bool) → pass ≡ opened pass.home.table steady history.window → history ≡ opened_history history.state
    → history.state ≡ opened_state (contents_of history.state) → steady ≡ whole → pass ≡ opened pass.home.table whole (first_window (opened_state (contents_of history.state)))
first-pass pass steady history whole is new starts same =
    is
    ∙ (λ i. opened pass.home.table (same i) history.window)
    ∙ ap (λ (h : History). opened pass.home.table whole h.window) new
    ∙ ap (λ (s : State). opened pass.home.table whole (first_window s)) starts

module _ {R F S T I O : Type 0} (left : I → Option (List ℕ)) (in_faults : I → ℕ) (in_steady in_closed : I → Bool) (written : O → Option (List ℕ)) (out_faults : O → ℕ) (out_steady out_closed : O → Bool) where
  -- the serving of links, given these
  abbrev Links : Given → Option ℕ → Spawning (Job (SharedDesk R F S) (SharedDesk R F S) T I O) → Option (List LinkReport) → ℕ → ℕ → Option (List LinkReport) → ℕ → ℕ → ℕ → Bool → LoopEnd → History → Type 0
  Links g most jobs coming unjoined unstarted coming_after given_after was now ended how service =
      links.ServesLinks left in_faults in_steady in_closed written out_faults out_steady out_closed g.uid g.number g.seed most g.pass
      (record { standing = record { view = g.pass.view; lent = 1; unjoined = g.unjoined; started = jobs.started; unstarted = jobs.unstarted }; listening = record { coming = coming; given = g.given } })
      unjoined unstarted (record { coming = coming_after; given = given_after }) was now ended how service

  pub serves-door : (uid then_uid : ℕ) (number seed then_seed path : List ℕ) (pass : Seen) (was_unjoined was_given : ℕ) (steady : Bool) (contents : Contents) (most : Option ℕ) (jobs_old jobs_new : Spawning (Job (SharedDesk R F S) (SharedDesk R F S) T I O))
      (coming coming_after : Option (List LinkReport)) (unjoined given was now : ℕ) (has_ended : Bool) (how : LoopEnd) (service : History) (shut_old shut_new : ShutDoors) (status : Status)
      → AreSoundContents contents
      → links.ServesLinks left in_faults in_steady in_closed written out_faults out_steady out_closed then_uid number then_seed most pass
      (record { standing = record { view = pass.view; lent = 1; unjoined = was_unjoined; started = jobs_old.started; unstarted = jobs_old.unstarted }; listening = record { coming = coming; given = was_given } })
      unjoined jobs_new.unstarted (record { coming = coming_after; given = given }) was now has_ended how service
      → then_uid ≡ uid → number ≡ guid seed → then_seed ≡ seed → pass ≡ opened pass.home.table steady (first_window (opened_state contents)) → was_unjoined ≡ 0 → was_given ≡ 0
      → TakesBack shut_old path given has_ended shut_new → status ≡ status_of_loop how
      → ServesDoor left in_faults in_steady in_closed written out_faults out_steady out_closed uid seed path most steady contents shut_old shut_new jobs_old jobs_new status
  serves-door uid then_uid number seed then_seed path pass was_unjoined was_given steady contents most jobs_old jobs_new coming coming_after unjoined given was now has_ended how service shut_old
      shut_new status sound all same_uid same_number same_seed first none_unjoined none_given back status_is =
      let before : Given = record { uid = then_uid; number = number; seed = then_seed; pass = pass; unjoined = was_unjoined; given = was_given } in
      let at : Given = record { uid = uid; number = guid seed; seed = seed; pass = opened pass.home.table steady (first_window (opened_state contents)); unjoined = 0; given = 0 } in
      let same : before ≡ at = λ i. record { uid = same_uid i; number = same_number i; seed = same_seed i; pass = first i; unjoined = none_unjoined i; given = none_given i } in
      let here : Links at most jobs_old coming unjoined jobs_new.unstarted coming_after given was now has_ended how service =
      subst (λ (g : Given). Links g most jobs_old coming unjoined jobs_new.unstarted coming_after given was now has_ended how service) same all in
      let stands = here.closed.stands in
      let start : here.last.view.start ≡ opened_state contents = here.gathered.began.start in
      record {
        sound = sound;
        given = given;
        has_ended = has_ended;
        back = back;
        coming = coming;
        coming_after = coming_after;
        faults = was;
        faults_after = now;
        how = how;
        status_is = status_is;
        unjoined = unjoined;
        table = pass.home.table;
        service = service;
        links = here;
        legal = subst (λ (s : State). Legal s here.last.view.seen) start stands.legal;
        state = state-stands here.last.view.start here.last.view.before here.last.view.seen service stands ∙ ap (λ (s : State). replay s here.last.view.seen) start;
      }
