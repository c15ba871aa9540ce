-- Accepting links, and serving each by a job: what became of each link, and what the loop returns.
use Rattle.std.specs.Prelude.{◌≡◌, ℕ, ◌+◌, ◌*◌, ◌≤◌, min, Bool, ◌&&◌, IsTrue, IfSome, List, [], ◌∷◌, ◌++◌, length, Option, Some}
use Rattle.std.specs.List.{AllZip, FoldsTo}
use Rattle.kr_outside.specs.Faults.{last_count, Rose}
use Rattle.kr_outside.specs.Host.{GivesOne}
use Rattle.kr_outside.specs.Listener.{LinkReport, GivesNext, IsNewEnd}
use Rattle.dbus_auth.specs.Table.{fresh}
use Rattle.connection_worker.specs.service_events.specs.declared.event.JoinRefused.{JoinRefused}
use Rattle.connection_worker.specs.service_desk.specs.Calls.{Goes}
use Rattle.connection_worker.specs.service_desk.specs.Places.{Told, Home, place}
use Rattle.connection_worker.specs.service_desk.specs.Views.{View}
use Rattle.connection_worker.specs.Streams.{input_of, output_of}
use Rattle.daemon.specs.declared.accepting.LoopEnd.{LoopEnd}
use Rattle.daemon.specs.declared.accepting.LoopEnd.TheVariants as loop
use Rattle.daemon.specs.declared.accepting.Next.{Next}
use Rattle.daemon.specs.declared.accepting.Next.TheVariants as next
use Rattle.daemon.specs.declared.job.Served.{Served}
use Rattle.daemon.specs.Hubs.{Joins, IsDeskOf, IsNotJoined, TakesBack, salts_of}
use Rattle.daemon.specs.Jobs.{Job, closed_input, closed_output}
use Rattle.daemon.specs.Spawners.{Spawning}

-- what became of a link that was accepted
pub data Round (A B C I O : Type 0) : Type 0 where
  -- its connection couldn't join, and the link was dropped
  Unjoined : (why : JoinRefused) → (input : I) → (output : O) → Round A B C I O
  -- its job couldn't be started, and the link was dropped; this is the writer's desk after it recorded that the connection is gone
  Unstarted : (job : Job A B C I O) → (gone : B) → Round A B C I O
  -- its job was started
  Started : (job : Job A B C I O) → Round A B C I O

-- what the other side of the link sends
abbrev pub input_in : {A B C I O : Type 0} → Round A B C I O → I
input_in (Unjoined why input output) = input
input_in (Unstarted job gone) = job.input
input_in (Started job) = job.input

-- what it receives
abbrev pub output_in : {A B C I O : Type 0} → Round A B C I O → O
output_in (Unjoined why input output) = output
output_in (Unstarted job gone) = job.output
output_in (Started job) = job.output

-- 1 for a link that was dropped since its connection couldn't join
abbrev pub unjoined_by : {A B C I O : Type 0} → Round A B C I O → ℕ
unjoined_by (Unjoined why input output) = 1
unjoined_by (Unstarted job gone) = 0
unjoined_by (Started job) = 0

-- 1 for a link that was dropped since its job couldn't be started
abbrev pub unstarted_by : {A B C I O : Type 0} → Round A B C I O → ℕ
unstarted_by (Unjoined why input output) = 0
unstarted_by (Unstarted job gone) = 1
unstarted_by (Started job) = 0

-- the sum of such numbers over links
abbrev pub total_by : {R : Type 0} → (R → ℕ) → List R → ℕ
total_by number [] = 0
total_by number (round ∷ rounds) = number round + total_by number rounds

-- a count after it rose this often; it stays at its last number
abbrev pub risen : ℕ → ℕ → ℕ
risen times count = min (count + times) last_count

-- what the loop changes in a hub and a spawner: what the hub has seen, how many desks it has handed out and not taken back, how many joins were
-- refused, the jobs that were started and aren't finished, and how many starts were refused
pub record Standing (J : Type 0) : Type 0 where
  pub view : View
  pub lent : ℕ
  pub unjoined : ℕ
  pub started : List J
  pub unstarted : ℕ

-- that of a hub, by the meanings of its type, and a spawner
abbrev pub standing : {U J : Type 0} → (U → View) → (U → ℕ) → (U → ℕ) → U → Spawning J → Standing J
standing view lent refused hub spawner = record { view = view hub; lent = lent hub; unjoined = refused hub; started = spawner.started; unstarted = spawner.unstarted }

-- what it changes in a listener, while this doesn't end or fail: the links that are still to be given, if it reports them, and how many it gave
pub record Listening : Type 0 where
  pub coming : Option (List LinkReport)
  pub given : ℕ

-- that of a listener, by the meanings of its type
abbrev pub listening : {L : Type 0} → (L → Option (List LinkReport)) → (L → ℕ) → L → Listening
listening coming given listener = record { coming = coming listener; given = given listener }

-- A new connection's job: its desks are those of this connection of the hub's service, it has the hub's handshake and the connection's salts.
pub record IsJobOf {A B C I O : Type 0} (read_told : A → Told) (read_seen : A → View → Type 0) (write_told : B → Told) (write_seen : B → View → Type 0) (uid : ℕ) (guid seed : List ℕ) (home : Option Home) (job : Job A B C I O) (old new : View) : Type 0 where
  pub joined : Joins old job.conn new
  pub auth : job.auth ≡ fresh uid guid
  pub salting : job.salting ≡ salts_of seed job.conn
  pub reader : IsDeskOf (read_told job.reader) (read_seen job.reader) home job.conn new
  pub writer : IsDeskOf (write_told job.writer) (write_seen job.writer) home job.conn new

-- The connection of a job is gone, as its writer's desk recorded, and the hub took back both desks.
pub record IsTurnedAway {A B C I O : Type 0} (read_seen : A → View → Type 0) (write_told : B → Told) (write_seen : B → View → Type 0) (job : Job A B C I O) (gone : B) (old new : View) : Type 0 where
  pub goes : Goes (place write_told write_seen job.writer) (place write_told write_seen gone)
  pub back : TakesBack (read_seen job.reader) (write_seen gone) old new

module _ {A B C I O : Type 0} (read_told : A → Told) (read_seen : A → View → Type 0) (write_told : B → Told) (write_seen : B → View → Type 0) (uid : ℕ) (guid seed : List ℕ) (home : Option Home) where
  -- no connection could join, and this was counted
  pub record IsUnjoined (why : JoinRefused) (old new : Standing (Job A B C I O)) : Type 0 where
    pub refused : IsNotJoined why old.view new.view
    pub lent : new.lent ≡ old.lent
    pub counted : GivesOne old.unjoined new.unjoined
    pub started : new.started ≡ old.started
    pub unstarted : new.unstarted ≡ old.unstarted

  -- a connection joined, its job couldn't be started, which was counted, and it is gone
  pub record IsUnstarted (job : Job A B C I O) (gone : B) (old new : Standing (Job A B C I O)) : Type 0 where
    pub joined : View
    pub made : IsJobOf read_told read_seen write_told write_seen uid guid seed home job old.view joined
    pub away : IsTurnedAway read_seen write_told write_seen job gone joined new.view
    pub lent : new.lent ≡ old.lent
    pub unjoined : new.unjoined ≡ old.unjoined
    pub started : new.started ≡ old.started
    pub counted : GivesOne old.unstarted new.unstarted

  -- a connection joined, and its job was started
  pub record IsStarted (job : Job A B C I O) (old new : Standing (Job A B C I O)) : Type 0 where
    pub made : IsJobOf read_told read_seen write_told write_seen uid guid seed home job old.view new.view
    pub lent : new.lent ≡ old.lent + 2
    pub unjoined : new.unjoined ≡ old.unjoined
    pub started : new.started ≡ old.started ++ job ∷ []
    pub unstarted : new.unstarted ≡ old.unstarted

  -- what became of a link
  abbrev pub IsAdmitted : Standing (Job A B C I O) → Round A B C I O → Standing (Job A B C I O) → Type 0
  IsAdmitted old (Unjoined why input output) new = IsUnjoined why old new
  IsAdmitted old (Unstarted job gone) new = IsUnstarted job gone old new
  IsAdmitted old (Started job) new = IsStarted job old new

-- A listener gave a link, and counted it: the next one, if it reports them; both ends are open and haven't failed yet.
pub record Gives {I O : Type 0} (left : I → Option (List ℕ)) (in_faults : I → ℕ) (in_steady in_closed : I → Bool) (written : O → Option (List ℕ)) (out_faults : O → ℕ) (out_steady out_closed : O → Bool) (old : Listening) (input : I) (output : O) (new : Listening) : Type 0 where
  pub next : GivesNext old.coming (Some (record { left = left input; written = written output; is_steady = in_steady input && out_steady output })) new.coming
  pub new_input : IsNewEnd (in_closed input) (in_faults input)
  pub new_output : IsNewEnd (out_closed output) (out_faults output)
  pub counted : GivesOne old.given new.given

-- Both ends of a link were closed, and nothing else was done with them: nothing was read from the one or written to the other.
pub record IsHungUp {I O : Type 0} (left : I → Option (List ℕ)) (in_faults : I → ℕ) (in_steady in_closed : I → Bool) (written : O → Option (List ℕ)) (out_faults : O → ℕ) (out_steady out_closed : O → Bool) (input : I) (output : O) : Type 0 where
  pub input_after : I
  pub output_after : O
  pub input_is : input_of left in_faults in_steady in_closed input_after ≡ closed_input (input_of left in_faults in_steady in_closed input)
  pub output_is : output_of written out_faults out_steady out_closed output_after ≡ closed_output (output_of written out_faults out_steady out_closed output)

-- a hub and a spawner, and a listener
pub record World (J : Type 0) : Type 0 where
  pub standing : Standing J
  pub listening : Listening

-- Why the loop ended, after this many links: no link will come; as many were accepted as were asked for; the listener failed; or memory
-- ran out. Only at a failure the listener's count of faults rose.
abbrev pub EndsFor : LoopEnd → Option ℕ → ℕ → ℕ → ℕ → Bool → Type 0
EndsFor loop.Ended most links was is ended = IsTrue ended × (is ≡ was)
EndsFor loop.Reached most links was is ended = (most ≡ Some links) × (is ≡ was)
EndsFor loop.ListenFault most links was is ended = Rose was is
EndsFor loop.Memory most links was is ended = is ≡ was

module _ {A B C I O : Type 0} (read_told : A → Told) (read_seen : A → View → Type 0) (write_told : B → Told) (write_seen : B → View → Type 0) (left : I → Option (List ℕ)) (in_faults : I → ℕ) (in_steady in_closed : I → Bool) (written : O → Option (List ℕ)) (out_faults : O → ℕ) (out_steady out_closed : O → Bool) (uid : ℕ) (guid seed : List ℕ) (home : Option Home) where
  -- a link that isn't served is hung up
  abbrev pub HangsUp : Round A B C I O → Type 0
  HangsUp (Unjoined why input output) = IsHungUp left in_faults in_steady in_closed written out_faults out_steady out_closed input output
  HangsUp (Unstarted job gone) = IsHungUp left in_faults in_steady in_closed written out_faults out_steady out_closed job.input job.output
  HangsUp (Started job) = Unit {0}

  -- what became of the link with these ends
  pub record Admits (input : I) (output : O) (old new : Standing (Job A B C I O)) : Type 0 where
    pub round : Round A B C I O
    pub input_is : input_in round ≡ input
    pub output_is : output_in round ≡ output
    pub admitted : IsAdmitted read_told read_seen write_told write_seen uid guid seed home old round new
    pub hung : HangsUp round

  -- one link was accepted, and this became of it
  pub record IsRound (old : World (Job A B C I O)) (round : Round A B C I O) (new : World (Job A B C I O)) : Type 0 where
    pub gives : Gives left in_faults in_steady in_closed written out_faults out_steady out_closed old.listening (input_in round) (output_in round) new.listening
    pub admitted : IsAdmitted read_told read_seen write_told write_seen uid guid seed home old.standing round new.standing
    pub hung : HangsUp round

  -- These links were accepted, one after the other.
  abbrev pub Rounds : World (Job A B C I O) → List (Round A B C I O) → World (Job A B C I O) → Type 0
  Rounds old rounds new = FoldsTo IsRound old rounds new

  -- One link was accepted; or no link will come; or the listener failed, as its count of faults shows.
  abbrev pub AcceptsOne : World (Job A B C I O) → World (Job A B C I O) → ℕ → ℕ → Bool → Next → Type 0
  AcceptsOne old new was is ended next.Accepted = ((round : Round A B C I O) × IsRound old round new) × (is ≡ was)
  AcceptsOne old new was is ended next.Ended = (new ≡ old) × IsTrue ended × (is ≡ was)
  AcceptsOne old new was is ended next.Failed = (new ≡ old) × Rose was is

  -- These links were accepted, at most as many as were asked for, until the loop ended for this reason.
  pub record AcceptsLinks (most : Option ℕ) (old new : World (Job A B C I O)) (was is : ℕ) (ended : Bool) (how : LoopEnd) : Type 0 where
    pub rounds : List (Round A B C I O)
    pub run : Rounds old rounds new
    pub few : IfSome most (λ number. length rounds ≤ number)
    pub why : EndsFor how most (length rounds) was is ended

-- The started jobs were finished, and their results appended in order, each in its job's relation.
pub record FinishesAll {J S : Type 0} (Serves : J → S → Type 0) (old new : Spawning J) (done_old done_new : List S) : Type 0 where
  pub results : List S
  pub served : AllZip Serves old.started results
  pub appended : done_new ≡ done_old ++ results
  pub finished : new ≡ record old { started = [] }

-- All that became of the links that were accepted: the jobs that were started are finished, and their results are appended in order.
pub record Accepts {A B C I O : Type 0} (Rounds : World (Job A B C I O) → List (Round A B C I O) → World (Job A B C I O) → Type 0) (Serves : Job A B C I O → Served A B I O → Type 0) (most : Option ℕ) (old new : World (Job A B C I O)) (was is : ℕ) (ended : Bool) (done_old done_new : List (Served A B I O)) (how : LoopEnd) : Type 0 where
  pub rounds : List (Round A B C I O)
  pub last : World (Job A B C I O)
  pub run : Rounds old rounds last
  pub finished : new ≡ record last { standing = record last.standing { started = [] } }
  pub results : List (Served A B I O)
  pub served : AllZip Serves last.standing.started results
  pub appended : done_new ≡ done_old ++ results
  pub few : IfSome most (λ number. length rounds ≤ number)
  pub why : EndsFor how most (length rounds) was is ended
  -- the hub has handed out both desks of each connection that has a result, and taken back all others
  pub lent : new.standing.lent ≡ old.standing.lent + 2 * length results
  -- each link has a result, or was dropped; and each count of 64 bits rose by as many
  pub links : length rounds ≡ length results + (total_by unjoined_by rounds + total_by unstarted_by rounds)
  pub given : old.listening.given ≤ last_count → new.listening.given ≡ risen (length rounds) old.listening.given
  pub unjoined : old.standing.unjoined ≤ last_count → new.standing.unjoined ≡ risen (total_by unjoined_by rounds) old.standing.unjoined
  pub unstarted : old.standing.unstarted ≤ last_count → new.standing.unstarted ≡ risen (total_by unstarted_by rounds) old.standing.unstarted
