-- Accepting one link after the other.
use Rattle.std.specs.Prelude.{◌≡◌, ℕ, ◌+◌, ◌*◌, ◌≤◌, min, Bool, IfSome, List, [], ◌∷◌, ◌++◌, length, Option, None, Some}
use Rattle.std.specs.List.{AllZip, FoldsTo}
use Rattle.std.specs.Option.{option_map}
use Rattle.std.proofs.Common.{inl, inr, refl, ap, sym, subst, ◌∙◌, arith, length-append}
use Rattle.kr_base.specs.declared.ids.ConnId.{ConnId}
use Rattle.dbus_auth.specs.Exchange.{Exchange}
use Rattle.dbus_auth.specs.Table.{fresh}
use Rattle.connection_worker.specs.service_desk.specs.Calls.{Goes}
use Rattle.connection_worker.specs.service_desk.specs.Places.{Told, Home, Place}
use Rattle.connection_worker.specs.service_desk.specs.Views.{View}
use Rattle.connection_worker.specs.Salts.{Salting}
use Rattle.daemon.specs.declared.job.Served.{Served}
use Rattle.daemon.specs.declared.accepting.LoopEnd.{LoopEnd}
use Rattle.daemon.specs.Accepts.{Round, Unjoined, Unstarted, Started, World, Listening, IsJobOf, IsRound, Rounds, AcceptsLinks, Accepts, FinishesAll, total_by, unjoined_by, unstarted_by}
use Rattle.daemon.specs.Jobs.{Job}
use Rattle.daemon.specs.Spawners.{Spawning}
use Rattle.daemon.specs.Hubs.{Joins, IsDeskOf, salts_of}
use Rattle.std.proofs.lemmas.Fn.{FoldsTo-push}
use Rattle.kr_outside.specs.Faults.{last_count}
use Rattle.kr_outside.specs.Listener.{LinkReport, GivesNext}

module _ {W R : Type 0} (Step : W → R → W → Type 0) where
  -- So far: these links were accepted, and so many are still asked for.
  pub record AcceptedSoFar (most left : Option ℕ) (old now : W) : Type 0 where
    pub rounds : List R
    pub run : FoldsTo Step old rounds now
    pub left_is : most ≡ option_map (λ number. number + length rounds) left

  as-many : (left : Option ℕ) → left ≡ option_map (λ number. number + 0) left
  as-many None = refl
  as-many (Some number) = ap Some (omega arith)

  -- at first none
  pub none-accepted : (most : Option ℕ) (old : W) → AcceptedSoFar most most old old
  none-accepted most old = record { rounds = []; run = refl; left_is = as-many most }

  one-fewer : (left less : Option ℕ) (rounds : List R) (round : R) → left ≡ option_map (λ number. number + 1) less
      → option_map (λ number. number + length rounds) left ≡ option_map (λ number. number + length (rounds ++ round ∷ [])) less
  one-fewer left None rounds round is = rw is refl
  one-fewer left (Some number) rounds round is = rw is (ap Some (omega (arith, length-append rounds (round ∷ []))))

  -- one more was accepted
  pub one-accepted : (most left less : Option ℕ) (old now new : W) (round : R) → AcceptedSoFar most left old now → Step now round new
      → left ≡ option_map (λ number. number + 1) less → AcceptedSoFar most less old new
  one-accepted most left less old now new round so step is = record {
    rounds = so.rounds ++ round ∷ [];
    run = FoldsTo-push Step old so.rounds now round new so.run step;
    left_is = so.left_is ∙ one-fewer left less so.rounds round is;
  }

  few-of : (most left : Option ℕ) (links : ℕ) → most ≡ option_map (λ number. number + links) left → IfSome most (λ number. links ≤ number)
  few-of most None links is = rw is tt
  few-of most (Some number) links is = rw is (omega arith)

  -- no more than were asked for
  pub few-accepted : (most left : Option ℕ) (old now : W) (so : AcceptedSoFar most left old now) → IfSome most (λ number. length so.rounds ≤ number)
  few-accepted most left old now so = few-of most left (length so.rounds) so.left_is

-- a count that didn't rise
unrisen : (count most : ℕ) → count ≤ most → count ≡ min (count + 0) most
unrisen count most below = omega arith

-- a count that rose twice rose by both numbers
twice : (count some more most : ℕ) → count ≤ most → min (min (count + some) most + more) most ≡ min (count + (some + more)) most
twice count some more most below = omega arith

-- If each link raises a count of 64 bits by its number, all links raise it by the sum of these.
pub rises : {W R : Type 0} (Step : W → R → W → Type 0) (count : W → ℕ) (number : R → ℕ)
    → ((old new : W) (round : R) → Step old round new → count old ≤ last_count → count new ≡ min (count old + number round) last_count)
    → (old new : W) (rounds : List R) → FoldsTo Step old rounds new → count old ≤ last_count → count new ≡ min (count old + total_by number rounds) last_count
rises Step count number each old new [] run below = ap count (sym run) ∙ unrisen (count old) last_count below
rises Step count number each old new (round ∷ rounds) (mid, step, run) below =
    let one = each old mid round step below in
    rises Step count number each mid new rounds run (subst (λ (n : ℕ). n ≤ last_count) (sym one) (omega arith))
    ∙ (ap (λ (n : ℕ). min (n + total_by number rounds) last_count) one ∙ twice (count old) (number round) (total_by number rounds) last_count below)

-- a listener that gave no link has as many to give as before
pub none-given : (old new : Option (List LinkReport)) → GivesNext old None new → new ≡ old
none-given None new is = is
none-given (Some []) new is = is.1
none-given (Some (report ∷ rest)) new is = let wrong : None ≡ Some report = is.0 in absurd cc

-- a desk that recorded that its connection is gone is of the same service, with the same passes
pub goes-home : (old new : Place) → Goes old new → new.told.home ≡ old.told.home
goes-home old new (inl recorded) = recorded.same.home
goes-home old new (inr none) = none.0.same.home

-- A job over what a hub returned is one of a new connection.
pub is-job : {A B C I O : Type 0} (read_told : A → Told) (read_seen : A → View → Type 0) (write_told : B → Told) (write_seen : B → View → Type 0) (uid then_uid : ℕ)
    (guid then_guid seed then_seed : List ℕ) (home then_home : Option Home) (conn : ConnId) (auth : Exchange) (salting : Salting) (clock : C) (reader : A) (writer : B) (input : I) (output : O)
    (old mid new : View) → Joins old conn mid → IsDeskOf (read_told reader) (read_seen reader) then_home conn mid → IsDeskOf (write_told writer) (write_seen writer) then_home conn mid
    → auth ≡ fresh then_uid then_guid → salting ≡ salts_of then_seed conn → then_uid ≡ uid → then_guid ≡ guid → then_seed ≡ seed → then_home ≡ home → new ≡ mid
    → IsJobOf read_told read_seen write_told write_seen uid guid seed home
    (record { conn = conn; auth = auth; salting = salting; clock = clock; reader = reader; writer = writer; input = input; output = output }) old new
is-job read_told read_seen write_told write_seen uid then_uid guid then_guid seed then_seed home then_home conn auth salting clock reader writer input output old mid new joins reads writes auth_is
    salts_are same_uid same_guid same_seed same_home seen = record {
      joined = rw seen joins;
      auth = auth_is ∙ (ap (λ (u : ℕ). fresh u then_guid) same_uid ∙ ap (λ (g : List ℕ). fresh uid g) same_guid);
      salting = salts_are ∙ ap (λ (s : List ℕ). salts_of s conn) same_seed;
      reader = rw (seen, sym same_home) reads;
      writer = rw (seen, sym same_home) writes;
    }

-- a link's number is 1
total-ones : {R : Type 0} (rounds : List R) → total_by (λ round. 1) rounds ≡ length rounds
total-ones [] = refl
total-ones (round ∷ rounds) = let rest = total-ones rounds in omega arith

-- two lists that agree at each place are equally long
zip-length : {J S : Type 0} (Serves : J → S → Type 0) (jobs : List J) (results : List S) → AllZip Serves jobs results → length jobs ≡ length results
zip-length Serves [] [] all = refl
zip-length Serves [] (s ∷ ss) all = elim all [ ]
zip-length Serves (j ∷ js) [] all = elim all [ ]
zip-length Serves (j ∷ js) (s ∷ ss) all = let rest = zip-length Serves js ss all.1 in omega arith

-- room for the results of all jobs and one more is room after one more was started
pub room-kept : (len room had has more : ℕ) → len + more ≤ room → more ≡ had + 1 → has ≤ had + 1 → len + has ≤ room
room-kept len room had has more fits is few = omega arith

-- the state of a hub and a spawner, after the spawner finished its jobs
pub world-finished : {J : Type 0} (view : View) (lent unjoined : ℕ) (listening : Listening) (old new : Spawning J) → new ≡ record old { started = [] }
    → ◌≡◌ {A = World J} (record { standing = record { view = view; lent = lent; unjoined = unjoined; started = new.started; unstarted = new.unstarted }; listening = listening })
    (record { standing = record { view = view; lent = lent; unjoined = unjoined; started = []; unstarted = old.unstarted }; listening = listening })
world-finished view lent unjoined listening old new is = rw is refl

module _ {A B C I O : Type 0} (read_told : A → Told) (read_seen : A → View → Type 0) (write_told : B → Told) (write_seen : B → View → Type 0) (left : I → Option (List ℕ)) (in_faults : I → ℕ) (in_steady in_closed : I → Bool) (written : O → Option (List ℕ)) (out_faults : O → ℕ) (out_steady out_closed : O → Bool) (uid : ℕ) (guid seed : List ℕ) (home : Option Home) where
  abbrev Step : World (Job A B C I O) → Round A B C I O → World (Job A B C I O) → Type 0
  Step old round new = IsRound read_told read_seen write_told write_seen left in_faults in_steady in_closed written out_faults out_steady out_closed uid guid seed home old round new

  -- with each link, one job more was started, or the link was dropped
  one-more : (old new : World (Job A B C I O)) (round : Round A B C I O) → Step old round new
      → length new.standing.started + (unjoined_by round + unstarted_by round) ≡ length old.standing.started + 1
  one-more old new (Unjoined why input output) step = let same = ap (λ (js : List (Job A B C I O)). length js) step.admitted.started in omega arith
  one-more old new (Unstarted job gone) step = let same = ap (λ (js : List (Job A B C I O)). length js) step.admitted.started in omega arith
  one-more old new (Started job) step =
      let more = ap (λ (js : List (Job A B C I O)). length js) step.admitted.started in omega (arith, length-append old.standing.started (job ∷ []))

  -- so not more than one
  pub one-at-most : (old new : World (Job A B C I O)) (round : Round A B C I O) → Step old round new → length new.standing.started ≤ length old.standing.started + 1
  one-at-most old new round step = let one = one-more old new round step in omega arith

  all-more : (old new : World (Job A B C I O)) (rounds : List (Round A B C I O)) → FoldsTo Step old rounds new
      → length new.standing.started + (total_by unjoined_by rounds + total_by unstarted_by rounds) ≡ length old.standing.started + length rounds
  all-more old new [] run = let same = ap (λ (w : World (Job A B C I O)). length w.standing.started) run in omega arith
  all-more old new (round ∷ rounds) (mid, step, run) =
      let one = one-more old mid round step in
      let rest = all-more mid new rounds run in
      omega arith

  -- the hub has handed out two desks more with each job that was started
  lent-step : (old new : World (Job A B C I O)) (round : Round A B C I O) → Step old round new
      → new.standing.lent + 2 * length old.standing.started ≡ old.standing.lent + 2 * length new.standing.started
  lent-step old new (Unjoined why input output) step =
      let same = ap (λ (js : List (Job A B C I O)). length js) step.admitted.started in let lent = step.admitted.lent in omega arith
  lent-step old new (Unstarted job gone) step =
      let same = ap (λ (js : List (Job A B C I O)). length js) step.admitted.started in let lent = step.admitted.lent in omega arith
  lent-step old new (Started job) step =
      let more = ap (λ (js : List (Job A B C I O)). length js) step.admitted.started in
      let lent = step.admitted.lent in omega (arith, length-append old.standing.started (job ∷ []))

  lent-all : (old new : World (Job A B C I O)) (rounds : List (Round A B C I O)) → FoldsTo Step old rounds new
      → new.standing.lent + 2 * length old.standing.started ≡ old.standing.lent + 2 * length new.standing.started
  lent-all old new [] run =
      let same = ap (λ (w : World (Job A B C I O)). length w.standing.started) run in
      let lent = ap (λ (w : World (Job A B C I O)). w.standing.lent) run in omega arith
  lent-all old new (round ∷ rounds) (mid, step, run) =
      let one = lent-step old mid round step in
      let rest = lent-all mid new rounds run in
      omega arith

  given-step : (old new : World (Job A B C I O)) (round : Round A B C I O) → Step old round new → old.listening.given ≤ last_count
      → new.listening.given ≡ min (old.listening.given + 1) last_count
  given-step old new round step below = step.gives.counted

  unjoined-step : (old new : World (Job A B C I O)) (round : Round A B C I O) → Step old round new → old.standing.unjoined ≤ last_count
      → new.standing.unjoined ≡ min (old.standing.unjoined + unjoined_by round) last_count
  unjoined-step old new (Unjoined why input output) step below = step.admitted.counted
  unjoined-step old new (Unstarted job gone) step below = step.admitted.unjoined ∙ unrisen old.standing.unjoined last_count below
  unjoined-step old new (Started job) step below = step.admitted.unjoined ∙ unrisen old.standing.unjoined last_count below

  unstarted-step : (old new : World (Job A B C I O)) (round : Round A B C I O) → Step old round new → old.standing.unstarted ≤ last_count
      → new.standing.unstarted ≡ min (old.standing.unstarted + unstarted_by round) last_count
  unstarted-step old new (Unjoined why input output) step below = step.admitted.unstarted ∙ unrisen old.standing.unstarted last_count below
  unstarted-step old new (Unstarted job gone) step below = step.admitted.counted
  unstarted-step old new (Started job) step below = step.admitted.unstarted ∙ unrisen old.standing.unstarted last_count below

  -- What was accepted, and then finished, is what the loop returns.
  pub accepts : (Serves : Job A B C I O → Served A B I O → Type 0) (most : Option ℕ) (old last new : World (Job A B C I O)) (was is : ℕ) (ended : Bool) (how : LoopEnd)
      (done_old done_mid done_new : List (Served A B I O)) (then now : Spawning (Job A B C I O))
      → AcceptsLinks read_told read_seen write_told write_seen left in_faults in_steady in_closed written out_faults out_steady out_closed uid guid seed home most old last was is ended how
      → old.standing.started ≡ [] → done_mid ≡ done_old → FinishesAll Serves then now done_mid done_new → then.started ≡ last.standing.started
      → new ≡ record last { standing = record last.standing { started = [] } }
      → Accepts (Rounds read_told read_seen write_told write_seen left in_faults in_steady in_closed written out_faults out_steady out_closed uid guid seed home) Serves most old new was is
      ended done_old done_new how
  accepts Serves most old last new was is ended how done_old done_mid done_new then now links idle same finishes jobs_are new_is =
      let served = subst (λ (js : List (Job A B C I O)). AllZip Serves js finishes.results) jobs_are finishes.served in
      let all = all-more old last links.rounds links.run in
      let none = ap (λ (js : List (Job A B C I O)). length js) idle in
      let long = zip-length Serves last.standing.started finishes.results served in
      record {
        rounds = links.rounds;
        last = last;
        run = links.run;
        finished = new_is;
        results = finishes.results;
        served = served;
        appended = finishes.appended ∙ ap (λ (d : List (Served A B I O)). d ++ finishes.results) same;
        few = links.few;
        why = links.why;
        lent = (let lent = lent-all old last links.rounds links.run in let is = ap (λ (w : World (Job A B C I O)). w.standing.lent) new_is in omega arith);
        links = omega arith;
        given = λ below. ap (λ (w : World (Job A B C I O)). w.listening.given) new_is
            ∙ (rises Step (λ w. w.listening.given) (λ round. 1) given-step old last links.rounds links.run below
            ∙ ap (λ (n : ℕ). min (old.listening.given + n) last_count) (total-ones links.rounds));
        unjoined = λ below. ap (λ (w : World (Job A B C I O)). w.standing.unjoined) new_is
            ∙ rises Step (λ w. w.standing.unjoined) unjoined_by unjoined-step old last links.rounds links.run below;
        unstarted = λ below. ap (λ (w : World (Job A B C I O)). w.standing.unstarted) new_is
            ∙ rises Step (λ w. w.standing.unstarted) unstarted_by unstarted-step old last links.rounds links.run below;
      }
