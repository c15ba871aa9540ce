-- Serving the links of a listener by one service that threads share: what became of each link, and the one history that their connections have.
use Rattle.std.specs.Prelude.{◌≡◌, ℕ, Bool, List, [], ◌∷◌, ◌++◌, Option, None, Some, Result, Ok, Err}
use mathlib.Core.Logic.{inl, inr}
use Rattle.std.specs.List.{AllZip, flat_map}
use Rattle.dbus_framing.specs.Framers.{Framing}
use Rattle.shared_service.specs.service_tables.specs.State.{State}
use Rattle.shared_service.specs.service_events.specs.declared.event.Event.{Event}
use Rattle.shared_service.specs.service_events.specs.declared.event.Event.TheVariants as event
use Rattle.shared_service.specs.service_events.specs.declared.event.Output.TheVariants as output
use Rattle.shared_service.specs.service_history.specs.History.{History}
use Rattle.shared_service.specs.service_desk.specs.Calls.{Goes}
use Rattle.shared_service.specs.service_desk.specs.Places.{Told, Home, Place}
use Rattle.shared_service.specs.service_desk.specs.Records as records
use Rattle.shared_service.specs.service_desk.specs.Records.{Own, of_others}
use Rattle.shared_service.specs.service_desk.specs.Views.{View, IsView, state_of, count_of}
use Rattle.shared_service.specs.declared.desk.SharedDesk.{SharedDesk}
use Rattle.shared_service.specs.Passes.{Seen, noted, told}
use Rattle.shared_service.specs.Tries.{IsWhole}
use Rattle.daemon.specs.connection_worker.specs.declared.ending.End.{End}
use Rattle.daemon.specs.connection_worker.specs.Handshakes.{Both}
use Rattle.daemon.specs.connection_worker.specs.Sides.{own_in}
use Rattle.daemon.specs.declared.accepting.LoopEnd.{LoopEnd}
use Rattle.daemon.specs.declared.job.Served.{Served}
use Rattle.daemon.specs.Accepts.{Accepts, Listening, Rounds, World}
use Rattle.daemon.specs.Jobs.{Job, Serves, Follows}
use Rattle.service_hub.specs.Gathering.{AreGathered}
use Rattle.service_hub.specs.Lending.{of_desk, missing_in}
use Rattle.service_hub.specs.Places.{AreAt}

-- what is known of a desk, by its pass
abbrev pub desk_told : {R F S : Type 0} → SharedDesk R F S → Told
desk_told desk = told desk.conn desk.pass.home desk.pass.steady desk.pass.view

-- what it has seen
abbrev pub desk_seen : {R F S : Type 0} → SharedDesk R F S → View → Type 0
desk_seen desk view = view ≡ desk.pass.view

-- what serving a link resulted in
abbrev pub ServedLink : (R F S I O : Type 0) → Type 0
ServedLink R F S I O = Served (SharedDesk R F S) (SharedDesk R F S) I O

-- a job of a link
abbrev pub LinkJob : (R F S T I O : Type 0) → Type 0
LinkJob R F S T I O = Job (SharedDesk R F S) (SharedDesk R F S) T I O

module _ {R F S I O : Type 0} where
  -- both desks are of this service, and have these passes
  abbrev pub IsOf : Home → ServedLink R F S I O → Type 0
  IsOf home served = (served.reader.pass.home ≡ home) × (served.writer.pass.home ≡ home)

  -- the passes of the reader and of the writer
  abbrev pub both_passes : ServedLink R F S I O → List Seen
  both_passes served = served.reader.pass ∷ served.writer.pass ∷ []

  -- those of all connections
  abbrev pub all_passes : List (ServedLink R F S I O) → List Seen
  all_passes results = flat_map both_passes results

-- what a desk saw when it recorded that its connection is gone, or found it gone
abbrev pub gone_seen : (old new : Place) → Goes old new → List records.Seen
gone_seen old new (inl recorded) = of_others recorded.between ++ Own (event.Gone old.told.conn) output.Gone ∷ []
gone_seen old new (inr none) = of_others none.0.between

module _ {R F S T I O : Type 0} (left : I → Option (List ℕ)) (in_faults : I → ℕ) (in_steady in_closed : I → Bool) (written : O → Option (List ℕ)) (out_faults : O → ℕ) (out_steady out_closed : O → Bool) where
  -- a job's relation to its result
  abbrev pub ServesLink : LinkJob R F S T I O → ServedLink R F S I O → Type 0
  ServesLink = Serves desk_told desk_seen desk_told desk_seen (λ clock. None) left in_faults in_steady in_closed written out_faults out_steady out_closed

  -- what the reader's desk saw and recorded after a handshake, if that was open
  abbrev pub read_seen : (job : LinkJob R F S T I O) (streams ends : Both) (served : ServedLink R F S I O) (outcome : Result Framing End)
      → Follows desk_told desk_seen desk_told desk_seen (λ clock. None) left in_faults in_steady in_closed written out_faults out_steady out_closed job streams ends served outcome → List records.Seen
  read_seen job streams ends served (Ok has) both = both.reader.seen ++ both.reader.last
  read_seen job streams ends served (Err how) turned = []

  -- what the writer's desk saw and recorded
  abbrev pub write_seen : (job : LinkJob R F S T I O) (streams ends : Both) (served : ServedLink R F S I O) (outcome : Result Framing End)
      → Follows desk_told desk_seen desk_told desk_seen (λ clock. None) left in_faults in_steady in_closed written out_faults out_steady out_closed job streams ends served outcome → List records.Seen
  write_seen job streams ends served (Ok has) both = both.writer.seen ++ both.writer.last
  write_seen job streams ends served (Err how) turned = gone_seen _ _ turned.gone

  -- A job did what its relation to its result says, and in the history since this start each event that its desks recorded is at its place, with
  -- the answer that it had.
  pub record IsRecorded (start : State) (log : List Event) (job : LinkJob R F S T I O) (served : ServedLink R F S I O) : Type 0 where
    pub serves : ServesLink job served
    pub reader : AreAt start log served.reader.pass.view.own (own_in (read_seen job serves.streams serves.ends served serves.outcome serves.follows))
    pub writer : AreAt start log served.writer.pass.view.own (own_in (write_seen job serves.streams serves.ends served serves.outcome serves.follows))

  -- What became of the links that a listener gave: each was served, or dropped for a cause that was counted (the rounds of the loop); each result
  -- is in its job's relation; and all that the connections recorded is in one history, which begins where the service's first pass did. Each desk
  -- has seen a beginning of it, and each event is one desk's own, or the hub's. The service is what the history led to.
  pub record ServesLinks (uid : ℕ) (guid seed : List ℕ) (most : Option ℕ) (pass : Seen) (old : World (LinkJob R F S T I O)) (unjoined unstarted : ℕ) (listening : Listening) (was is : ℕ) (ended : Bool) (how : LoopEnd) (service : History) : Type 0 where
    -- the hub's pass when all jobs had ended, and what the jobs resulted in
    pub hub : Seen
    pub results : List (ServedLink R F S I O)
    pub accepts : Accepts
        (Rounds desk_told desk_seen desk_told desk_seen left in_faults in_steady in_closed written out_faults out_steady out_closed uid guid seed (Some (of_desk pass.home)))
        ServesLink most old (record { standing = record { view = hub.view; lent = missing_in hub.home.share; unjoined = unjoined; started = []; unstarted = unstarted }; listening = listening }) was is ended [] results how
    -- the pass that took over what all of them had seen and recorded
    pub last : Seen
    pub gathered : AreGathered (noted pass) (all_passes results ++ hub ∷ []) last
    -- what it has seen is legal from where the service began, and the own events of all of them have each its place there
    pub view : IsView (state_of last.view) (count_of last.view) last.view
    pub recorded : AllZip (IsRecorded last.view.start last.view.seen) accepts.last.standing.started results
    -- the service is what this history led to, in which no event is of anyone else
    pub closed : IsWhole last.view service
