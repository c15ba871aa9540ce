-- One run over the links of a door: what became of each link, and the one history that all connections have.
use Rattle.std.specs.Prelude.{◌≡◌, ℕ, Bool, List, Option}
use Rattle.kr_outside.specs.Host.{ShutDoors, TakesBack}
use Rattle.kr_outside.specs.Listener.{LinkReport}
use Rattle.atomic_table.specs.Seated.{TableId}
use Rattle.lone_desk.specs.service_tables.specs.Opened.{Contents, opened_state}
use Rattle.lone_desk.specs.service_tables.specs.Sound.{AreSoundContents}
use Rattle.lone_desk.specs.service_events.specs.Replay.{replay, Legal}
use Rattle.lone_desk.specs.service_history.specs.History.{History}
use Rattle.lone_desk.specs.service_history.specs.Windows.{first_window}
use Rattle.service_hub.specs.shared_service.specs.declared.desk.SharedDesk.{SharedDesk}
use Rattle.service_hub.specs.shared_service.specs.Passes.{opened}
use Rattle.service_hub.specs.daemon.specs.declared.accepting.LoopEnd.{LoopEnd}
use Rattle.service_hub.specs.daemon.specs.Jobs.{Job}
use Rattle.service_hub.specs.daemon.specs.Spawners.{Spawning}
use Rattle.service_hub.specs.Links as links
use Rattle.keyring_program.specs.ServerNumber.{guid}
use Rattle.keyring_program.specs.Status.{IsUnservedStatus, status_of_loop}
use Rattle.keyring_program.specs.declared.status.Status.{Status}

-- The run ended before its door was open: the folder or the door failed, or memory ran out. The host took back no door, and no job was started.
pub record IsUnserved {J : Type 0} (status : Status) (shut_old shut_new : ShutDoors) (jobs_old jobs_new : Spawning J) : Type 0 where
  pub unserved : IsUnservedStatus status
  pub doors : shut_new ≡ shut_old
  pub jobs : jobs_new ≡ jobs_old

-- The run of a daemon for this user, under this seed, over a service that starts with these collections and aliases, which are sound, and whose
-- disk is steady or not. The door at this path gave links, as the host reports; what became of each, and what each connection read, recorded and wrote, is
-- `links`. All that was recorded is one history, which is legal from the service's start, and led to its state. The status is that of the end
-- of the loop over the links.
pub record ServesDoor {R F S T I O : Type 0} (left : I → Option (List ℕ)) (in_faults : I → ℕ) (in_steady in_closed : I → Bool) (written : O → Option (List ℕ)) (out_faults : O → ℕ) (out_steady out_closed : O → Bool) (uid : ℕ) (seed path : List ℕ) (most : Option ℕ) (steady : Bool) (contents : Contents) (shut_old shut_new : ShutDoors) (jobs_old jobs_new : Spawning (Job (SharedDesk R F S) (SharedDesk R F S) T I O)) (status : Status) : Type 0 where
  pub sound : AreSoundContents contents
  -- the door: how many links it gave, and whether it has ended
  pub given : ℕ
  pub has_ended : Bool
  pub back : TakesBack shut_old path given has_ended shut_new
  -- the links that it had to give before and after, if it reports them, and its counts of faults
  pub coming : Option (List LinkReport)
  pub coming_after : Option (List LinkReport)
  pub faults : ℕ
  pub faults_after : ℕ
  -- the loop: why it ended, and how many connections couldn't join
  pub how : LoopEnd
  pub status_is : status ≡ status_of_loop how
  pub unjoined : ℕ
  -- the service, which threads share, and what it is at the end
  pub table : TableId
  pub service : History
  pub links : links.ServesLinks left in_faults in_steady in_closed written out_faults out_steady out_closed uid (guid seed) seed most
      (opened table steady (first_window (opened_state contents)))
      (record {
        standing = record { view = (opened table steady (first_window (opened_state contents))).view; lent = 1; unjoined = 0; started = jobs_old.started; unstarted = jobs_old.unstarted };
        listening = record { coming = coming; given = 0 };
      })
      unjoined jobs_new.unstarted (record { coming = coming_after; given = given }) faults faults_after has_ended how service
  -- the history is what the last pass has seen, in which each event is one desk's or the hub's
  pub legal : Legal (opened_state contents) links.last.view.seen
  pub state : service.state ≡ replay (opened_state contents) links.last.view.seen
