-- What is counted over the replies to a load: one segment of its calls after the other.
use Rattle.std.proofs.Common.{◌≡◌, ℕ, zero, suc, ◌+◌, ◌-◌, ◌≤◌, Bool, true, false, cond, List, [], ◌∷◌, ◌++◌, length, Option, Some, None, is_some, Result, Ok, bytes_eq, codes, refl, sym, ap, ◌∙◌, subst, arith, length-append}
use Rattle.std.proofs.lemmas.Slice.Eq.{bytes_eq-Decides}
use Rattle.key_derivation.specs.Kdf.{key_of, vector_of}
use Rattle.connection_worker.specs.service_events.specs.collection_table.specs.Rows.{Rows}
use Rattle.connection_worker.specs.service_events.specs.service_tables.specs.keyring_seal.specs.Arranged.{Row}
use Rattle.connection_worker.specs.service_events.specs.secret_calls.specs.declared.call.Call.{Call}
use Rattle.connection_worker.specs.service_events.specs.secret_calls.specs.declared.call.Call.TheVariants as call
use Rattle.connection_worker.specs.service_events.specs.secret_calls.specs.declared.out.Body.{Body}
use Rattle.connection_worker.specs.service_events.specs.secret_calls.specs.declared.out.Body.TheVariants as body
use Rattle.connection_worker.specs.service_events.specs.secret_calls.specs.declared.out.ErrorName.{ErrorName}
use Rattle.connection_worker.specs.service_events.specs.secret_calls.specs.declared.work.Work.{Work}
use Rattle.connection_worker.specs.service_events.specs.alias_table.specs.Table.{AliasRows}
use Rattle.prompt_state.specs.Prompts.{no_prompts}
use Rattle.prompt_state.specs.declared.row.Stage.TheVariants as stage
use Rattle.connection_worker.specs.service_events.specs.service_tables.specs.State.{State}
use Rattle.connection_worker.specs.service_events.specs.service_disk.specs.Making as making
use Rattle.connection_worker.specs.service_events.specs.declared.event.Derivation.{Derivation}
use Rattle.connection_worker.specs.service_events.specs.Derivation.{derived}
use Rattle.connection_worker.specs.service_events.specs.Fates.{AreFaultless}
use Rattle.connection_worker.specs.service_events.specs.Run.{AreFates, Ran, asked}
use Rattle.connection_worker.specs.service_events.specs.Step.{Fits, brought_derived, brought_with, finished, row_of, served, terms_of, work_of}
use Rattle.connection_worker.specs.service_events.specs.Replay.{replay, Legal}
use Rattle.connection_worker.specs.service_events.specs.Single.{IsKeyFaultless, TimedKey, TimedRequest, arrival, asking, derivation, finishing, recorded_of, turn, work_for}
use Rattle.connection_worker.specs.Replies.{replies_to}
use Rattle.load_plan.specs.declared.counts.Counts.{Counts}
use Rattle.load_plan.specs.Counts.{raised, returned}
use Rattle.load_plan.specs.Plan.{create, read, search, the_name, the_prompt}
use Rattle.load_plan.specs.Words.{secret_of}
use Rattle.load_laws.specs.Made.{made}
use Rattle.load_laws.specs.Outputs.{Counted}
use Rattle.load_laws.specs.Requests.{the_connection}
use Rattle.load_laws.proofs.CreateLemmas.{HasItems, IsFront, answer-is, collection_of, made-items, tables_with}
use Rattle.load_laws.proofs.CreateLemmas as creating
use Rattle.load_laws.proofs.OpeningLemmas.{Leads, answers, creates, key-leaves, new_collection, new_plan, opening_tables, opens, prompted, prompts, ran_from, registered, registers, the_work, works}
use Rattle.load_laws.proofs.ReadLemmas.{reads, secret}
use Rattle.load_laws.proofs.SearchLemmas.{below, below-few, below-more, found-many, matching, paths_of, searched}
use Rattle.load_laws.proofs.TurnLemmas.{Runs, Tables, asked-tables, counted-on, derivation_of, fates-call, first-of, keyed-turn, legal-behind, quiet-turn, served-call, tables, with_tables, work-call}

-- ---- a call, from the tables of its state

pub at-tables : (call : Call) (a : TimedRequest) (state : State) (these : Tables) → tables state ≡ these → a.request.call ≡ Ok call
    → served (recorded_of the_connection a) state ≡ ran_from state.connections these call a.salt a.now a.fates
at-tables call a state these are is = served-call call a state is ∙ ap (λ (t : Tables). ran_from state.connections t call a.salt a.now a.fates) are

pub fates-at : (call : Call) (a : TimedRequest) (state : State) (these : Tables) → tables state ≡ these → a.request.call ≡ Ok call → Legal state (turn the_connection state a)
    → AreFates the_connection (brought_with a.now (Ok call)) (row_of a.salt call (asked the_connection (brought_with a.now (Ok call)) (with_tables state.connections these))) a.fates (with_tables state.connections these)
fates-at call a state these are is legal =
    subst
    (λ (t : Tables). AreFates the_connection (brought_with a.now (Ok call)) (row_of a.salt call (asked the_connection (brought_with a.now (Ok call)) (with_tables state.connections t))) a.fates (with_tables state.connections t))
    are (fates-call call a state is legal)

-- what a call that gives no work leads to
pub record Led (a : TimedRequest) (state : State) (it : Body) (after : Tables) : Type 0 where
  pub answer : (served (recorded_of the_connection a) state).answer ≡ Ok it
  pub leaves : tables (replay state (turn the_connection state a)) ≡ after

pub led : (call : Call) (a : TimedRequest) (state : State) (these after : Tables) (it : Body) → tables state ≡ these → a.request.call ≡ Ok call
    → ((reply : Result Body ErrorName) (s : State) → work_of (Ok call) reply s ≡ None) → Leads state.connections these call a.salt a.now a.fates it after → Led a state it after
led call a state these after it are is idle leads =
    let same = at-tables call a state these are is in
    let ran = served (recorded_of the_connection a) state in
    record {
      answer = ap (λ (r : Ran). r.answer) same ∙ leads.answer;
      leaves = quiet-turn the_connection state a (work-call call a state is ∙ idle ran.answer ran.state) ∙ ap (λ (r : Ran). tables r.state) same ∙ leads.leaves;
    }

-- ---- counts

abbrev pub counts_of : ℕ → ℕ → ℕ → Counts
counts_of items found read = record { items = items; found = found; read = read; errors = 0 }

raised-few : (count more : ℕ) → count + more ≤ 100000 → raised count more ≡ count + more
raised-few count more few = omega (arith, few)

-- so far these were counted, and the replies to the other requests lead to those
abbrev pub Leaves : ℕ → List Call → Counts → List TimedRequest → State → Counts → Type 0
Leaves seed all counts asked state after = Counted seed all counts (replies_to the_connection state asked) after

-- ---- reads

pub reads-count : (seed : ℕ) (all : List Call) (items found item n serial : ℕ) (asked : List TimedRequest) (state : State) (rows : List Row) → Runs all serial (made read item n) asked state
    → HasItems seed rows (tables state) → item + n ≡ length rows → length rows ≤ 1000 → Leaves seed all (counts_of items found item) asked state (counts_of items found (item + n))
reads-count seed all items found item zero serial [] state rows runs has long few = ap (counts_of items found) (let e : item + 0 ≡ item = omega arith in e)
reads-count seed all items found item zero serial (a ∷ more) state rows runs has long few = absurd runs.are
reads-count seed all items found item (suc n) serial [] state rows runs has long few = absurd runs.are
reads-count seed all items found item (suc n) serial (a ∷ more) state rows runs has long few =
    let first = first-of all serial (read item) (made read (suc item) n) a more state runs in
    let these = tables_with has.prompts has.aliases has.used (collection_of has.image has.front has.key has.vector rows) in
    let next = replay state (turn the_connection state a) in
    let it =
    led (read item) a state these these (body.Secret (secret seed item)) has.are first.is.call_is (λ reply s. refl)
    (reads seed item a.now a.salt a.fates state.connections has.prompts has.aliases has.used has.image has.front has.key has.vector rows has.items (omega (arith, long))) in
    let stays : HasItems seed rows (tables next) = subst (HasItems seed rows) (has.are ∙ sym it.leaves) has in
    let rest = reads-count seed all items found (suc item) n (suc serial) more next rows first.rest stays (omega (arith, long)) few in
    let same : bytes_eq (secret_of seed item) (secret_of seed (item + 1 - 1)) ≡ true = (bytes_eq-Decides (secret_of seed item) (secret_of seed (item + 1 - 1))).1 (ap (secret_of seed) (let e : item ≡ item + 1 - 1 = omega arith in e)) in
    let one : raised item 1 ≡ suc item = raised-few item 1 (omega (arith, long, few)) ∙ (let e : item + 1 ≡ suc item = omega arith in e) in
    let counted : returned seed (counts_of items found item) (read item) (body.Secret (secret seed item)) ≡ counts_of items found (suc item) =
    ap (λ (b : Bool). cond b (counts_of items found (raised item 1)) (counts_of items found item)) same ∙ ap (counts_of items found) one in
    let last : counts_of items found (suc item + n) ≡ counts_of items found (item + suc n) = ap (counts_of items found) (let e : suc item + n ≡ item + suc n = omega arith in e) in
    counted-on seed all (counts_of items found item) (counts_of items found (item + suc n)) (read item) serial a more state (body.Secret (secret seed item)) first.is first.placed (omega arith) refl it.answer
    (subst (λ (c : Counts). Leaves seed all c more next (counts_of items found (item + suc n))) (sym counted) (subst (Leaves seed all (counts_of items found (suc item)) more next) last rest))

-- ---- searches

pub searches-count : (seed : ℕ) (all : List Call) (items : ℕ) (after : Counts) (calls : List Call) (group n serial : ℕ) (asked : List TimedRequest) (state : State) (rows : List Row)
    → Runs all serial (made search group n ++ calls) asked state → HasItems seed rows (tables state) → length rows ≤ 1000 → group + n ≤ 10
    → ((serial : ℕ) (asked : List TimedRequest) (state : State) → Runs all serial calls asked state → HasItems seed rows (tables state)
    → Leaves seed all (counts_of items (below seed (group + n) 0 (length rows)) 0) asked state after)
    → Leaves seed all (counts_of items (below seed group 0 (length rows)) 0) asked state after
searches-count seed all items after calls group zero serial asked state rows runs has few within next =
    subst (λ g. Leaves seed all (counts_of items (below seed g 0 (length rows)) 0) asked state after) (let e : group + 0 ≡ group = omega arith in e) (next serial asked state runs has)
searches-count seed all items after calls group (suc n) serial [] state rows runs has few within next = absurd runs.are
searches-count seed all items after calls group (suc n) serial (a ∷ more) state rows runs has few within next =
    let first = first-of all serial (search group) (made search (suc group) n ++ calls) a more state runs in
    let these = tables_with has.prompts has.aliases has.used (collection_of has.image has.front has.key has.vector rows) in
    let paths = paths_of (matching group rows) in
    let then = replay state (turn the_connection state a) in
    let it =
    led (search group) a state these these (body.Found paths []) has.are first.is.call_is (λ reply s. refl)
    (searched seed group a.now a.salt a.fates state.connections has.prompts has.aliases has.used has.image has.front has.key has.vector rows has.items few (omega (arith, within))) in
    let stays : HasItems seed rows (tables then) = subst (HasItems seed rows) (has.are ∙ sym it.leaves) has in
    let sum : group + suc n ≡ suc group + n = omega arith in
    let rest =
    searches-count seed all items after calls (suc group) n (suc serial) more then rows first.rest stays few (omega (arith, within))
    (λ s asked' state' runs' has'. subst (λ g. Leaves seed all (counts_of items (below seed g 0 (length rows)) 0) asked' state' after) sum (next s asked' state' runs' has')) in
    let so = below seed group 0 (length rows) in
    let many = found-many seed group 0 rows (omega (arith, within)) has.items in
    let grown = below-more seed group 0 (length rows) in
    let most = below-few seed (group + 1) 0 (length rows) in
    let first-raised : raised so (length paths) ≡ so + length paths = raised-few so (length paths) (omega (arith, many, grown, most, few)) in
    let second-raised : raised (so + length paths) 0 ≡ so + length paths + 0 = raised-few (so + length paths) 0 (omega (arith, many, grown, most, few)) in
    let found : raised (raised so (length paths)) 0 ≡ below seed (suc group) 0 (length rows) =
    ap (λ c. raised c 0) first-raised ∙ second-raised ∙ (let e : so + length paths + 0 ≡ below seed (group + 1) 0 (length rows) = omega (arith, many, grown) in e)
    ∙ ap (λ g. below seed g 0 (length rows)) (let e : group + 1 ≡ suc group = omega arith in e) in
    counted-on seed all (counts_of items so 0) after (search group) serial a more state (body.Found paths []) first.is first.placed tt refl it.answer
    (subst (λ f. Leaves seed all (counts_of items f 0) more then after) (sym found) rest)

-- ---- items

pub creates-count : (seed : ℕ) (all : List Call) (after : Counts) (calls : List Call) (item n serial : ℕ) (asked : List TimedRequest) (state : State) (rows : List Row)
    → Runs all serial (made (create seed) item n ++ calls) asked state → HasItems seed rows (tables state) → length rows ≡ item → item + n ≤ 1000
    → ((serial : ℕ) (asked : List TimedRequest) (state : State) (rows : List Row) → Runs all serial calls asked state → HasItems seed rows (tables state) → length rows ≡ item + n
    → Leaves seed all (counts_of (item + n) 0 0) asked state after) → Leaves seed all (counts_of item 0 0) asked state after
creates-count seed all after calls item zero serial asked state rows runs has long few next =
    let e : item + 0 ≡ item = omega arith in
    subst (λ k. Leaves seed all (counts_of k 0 0) asked state after) e (next serial asked state rows runs has (long ∙ sym e))
creates-count seed all after calls item (suc n) serial [] state rows runs has long few next = absurd runs.are
creates-count seed all after calls item (suc n) serial (a ∷ more) state rows runs has long few next =
    let turned = subst (λ k. Runs all serial (create seed k ∷ (made (create seed) (suc item) n ++ calls)) (a ∷ more) state) (sym long) runs in
    let here = create seed (length rows) in
    let first = first-of all serial here (made (create seed) (suc item) n ++ calls) a more state turned in
    let these = tables_with has.prompts has.aliases has.used (collection_of has.image has.front has.key has.vector rows) in
    let then = replay state (turn the_connection state a) in
    let small : length rows ≤ 999 = omega (arith, long, few) in
    let are = fates-at here a state these has.are first.is.call_is first.legal in
    let same = at-tables here a state these has.are first.is.call_is in
    let ran = served (recorded_of the_connection a) state in
    let answered = creating.answered seed a.now a.salt a.fates state.connections has.prompts has.aliases has.used has.image has.front has.key has.vector rows has.is_front has.items small in
    let all-rows = creating.all seed a.now a.salt a.fates state.connections has.prompts has.aliases has.used has.image has.front has.key has.vector rows has.is_front has.items small in
    let answer : ran.answer ≡ Ok answered =
    ap (λ (r : Ran). r.answer) same
    ∙ answer-is seed a.now a.salt a.fates state.connections has.prompts has.aliases has.used has.image has.front has.key has.vector rows has.is_front has.items small are first.faultless.0 in
    let leaves : tables then ≡ tables (ran_from state.connections these here a.salt a.now a.fates).state =
    quiet-turn the_connection state a (work-call here a state first.is.call_is) ∙ ap (λ (r : Ran). tables r.state) same in
    let stays : HasItems seed all-rows (tables then) =
    subst (HasItems seed all-rows) (sym leaves)
    (made-items seed a.now a.salt a.fates state.connections has.prompts has.aliases has.used has.image has.front has.key has.vector rows has.is_front has.items small are first.faultless.0) in
    let grown : length all-rows ≡ suc item = omega (arith, long, length-append rows (creating.new seed a.now a.salt a.fates state.connections has.prompts has.aliases has.used has.image has.front has.key has.vector rows has.is_front has.items small ∷ [])) in
    let sum : item + suc n ≡ suc item + n = omega arith in
    let rest =
    creates-count seed all after calls (suc item) n (suc serial) more then all-rows first.rest stays grown (omega (arith, few))
    (λ s asked' state' rows' runs' has' long'. subst (λ k. Leaves seed all (counts_of k 0 0) asked' state' after) sum (next s asked' state' rows' runs' has' (long' ∙ sym sum))) in
    let one : raised item 1 ≡ suc item = raised-few item 1 (omega (arith, few)) ∙ (let e : item + 1 ≡ suc item = omega arith in e) in
    counted-on seed all (counts_of item 0 0) after here serial a more state answered first.is first.placed tt refl answer
    (subst (λ k. Leaves seed all (counts_of k 0 0) more then after) (sym one) rest)

-- ---- the opening

pub some-of : {A : Type 0} → (o : Option A) → is_some o ≡ true → (it : A) × (o ≡ Some it)
some-of None is = absurd (let no : false ≡ true = is in cc)
some-of (Some it) is = (it, refl)

-- the key of the answer can be used, from these tables
pub record KeyReady (aliases : Option AliasRows) (salt : List ℕ) (a : TimedRequest) (state : State) (key : TimedKey) : Type 0 where
  pub there : tables (replay state (asking the_connection state a)) ≡ opening_tables aliases [] (prompted salt (stage.Deriving 1)) []
  pub fits : Fits (replay state (asking the_connection state a)) (derivation the_connection (the_work salt) key)
  pub fates : AreFates the_connection (brought_derived (derivation_of the_connection (the_work salt) key))
      (derived the_prompt 1 (terms_of (derivation_of the_connection (the_work salt) key))
      (asked the_connection (brought_derived (derivation_of the_connection (the_work salt) key))
      (with_tables (replay state (asking the_connection state a)).connections (opening_tables aliases [] (prompted salt (stage.Deriving 1)) []))))
      key.fates (with_tables (replay state (asking the_connection state a)).connections (opening_tables aliases [] (prompted salt (stage.Deriving 1)) []))
  pub fine : AreFaultless key.fates

pub key-ready : (aliases : Option AliasRows) (salt : List ℕ) (a : TimedRequest) (state : State) (key : TimedKey) → Legal state (turn the_connection state a) → IsKeyFaultless a.key
    → work_for the_connection state a ≡ Some (the_work salt) → a.key ≡ Some key
    → tables (served (recorded_of the_connection a) state).state ≡ opening_tables aliases [] (prompted salt (stage.Deriving 1)) [] → KeyReady aliases salt a state key
key-ready aliases salt a state key legal faultless work found are =
    let asks = asking the_connection state a in
    let here = replay state asks in
    let came : Derivation = derivation_of the_connection (the_work salt) key in
    let these = opening_tables aliases [] (prompted salt (stage.Deriving 1)) [] in
    let behind : Legal here (finishing the_connection here (work_for the_connection state a) a.key) = legal-behind state asks (finishing the_connection here (work_for the_connection state a) a.key) legal in
    let its : Legal here (finishing the_connection here (Some (the_work salt)) (Some key)) = subst (λ (k : Option TimedKey). Legal here (finishing the_connection here (Some (the_work salt)) k)) found
    (subst (λ (w : Option Work). Legal here (finishing the_connection here w a.key)) work behind) in
    let fits : Fits here (derivation the_connection (the_work salt) key) = its.0 in
    let there : tables here ≡ these = asked-tables the_connection state a ∙ are in
    record {
      there = there;
      fits = fits;
      fates =
          subst
          (λ (t : Tables). AreFates the_connection (brought_derived came) (derived the_prompt 1 (terms_of came) (asked the_connection (brought_derived came) (with_tables here.connections t))) key.fates (with_tables here.connections t))
          there fits.1.fates;
      fine = subst IsKeyFaultless found faultless;
    }

-- it makes the collection
pub made-by-key : (aliases : Option AliasRows) (salt : List ℕ) (a : TimedRequest) (state : State) → length salt ≡ 8 → Legal state (turn the_connection state a) → IsKeyFaultless a.key
    → work_for the_connection state a ≡ Some (the_work salt) → is_some a.key ≡ true
    → tables (served (recorded_of the_connection a) state).state ≡ opening_tables aliases [] (prompted salt (stage.Deriving 1)) []
    → (now : ℕ) × (tables (replay state (turn the_connection state a)) ≡ opening_tables aliases (the_name ∷ []) (registered 2) ((the_name, new_collection salt now) ∷ []))
made-by-key aliases salt a state eight legal faultless work some are =
    let found = some-of a.key some in
    let key : TimedKey = found.0 in
    let here = replay state (asking the_connection state a) in
    let came : Derivation = derivation_of the_connection (the_work salt) key in
    let ready = key-ready aliases salt a state key legal faultless work found.1 are in (
      key.now,
      keyed-turn the_connection state a (the_work salt) key work found.1 ∙ ap (λ (t : Tables). tables (finished came (with_tables here.connections t)).state) ready.there
          ∙ key-leaves here.connections aliases salt key.now key.fates eight ready.fates ready.fine,
    )

-- the front of the new collection
pub new-front : (salt : List ℕ) (now : ℕ) → length salt ≡ 8 → IsFront (new_collection salt now).clear
new-front salt now eight = record { plain = refl; salt = eight; iterations = omega arith; label = refl }

pub opening-count : (seed : ℕ) (all : List Call) (after : Counts) (calls : List Call) (aliases : Option AliasRows) (asked : List TimedRequest) (state : State)
    → Runs all 1 (call.Register ∷ call.CreateCollection the_name None ∷ call.Prompt the_prompt ∷ call.Answer (Some the_prompt) 1 the_name ∷ call.OpenSession (codes "plain") ∷ calls) asked state
    → tables state ≡ opening_tables aliases [] no_prompts []
    → ((serial : ℕ) (asked : List TimedRequest) (state : State) → Runs all serial calls asked state → HasItems seed [] (tables state) → Leaves seed all (counts_of 0 0 0) asked state after)
    → Leaves seed all (counts_of 0 0 0) asked state after
opening-count seed all after calls aliases [] state runs start next = absurd runs.are
opening-count seed all after calls aliases (a ∷ []) state runs start next = absurd runs.are.1
opening-count seed all after calls aliases (a ∷ b ∷ []) state runs start next = absurd runs.are.1.1
opening-count seed all after calls aliases (a ∷ b ∷ c ∷ []) state runs start next = absurd runs.are.1.1.1
opening-count seed all after calls aliases (a ∷ b ∷ c ∷ d ∷ []) state runs start next = absurd runs.are.1.1.1.1
opening-count seed all after calls aliases (a ∷ b ∷ c ∷ d ∷ e ∷ more) state runs start next =
    let answer-call = call.Answer (Some the_prompt) 1 the_name in
    let session-call = call.OpenSession (codes "plain") in
    let none = counts_of 0 0 0 in
    let zeroth = opening_tables aliases [] no_prompts [] in
    let one-left = opening_tables aliases [] (registered 1) [] in
    let two-left = opening_tables aliases [] (prompted b.salt stage.Made) [] in
    let three-left = opening_tables aliases [] (prompted b.salt (stage.Asked 1)) [] in
    let four-left = opening_tables aliases [] (prompted b.salt (stage.Deriving 1)) [] in
    let one = first-of all 1 call.Register (call.CreateCollection the_name None ∷ call.Prompt the_prompt ∷ answer-call ∷ session-call ∷ calls) a (b ∷ c ∷ d ∷ e ∷ more) state runs in
    let s1 = replay state (turn the_connection state a) in
    let l1 = led call.Register a state zeroth one-left body.Empty start one.is.call_is (λ reply s. refl) (registers state.connections aliases a.salt a.now a.fates) in
    let two = first-of all 2 (call.CreateCollection the_name None) (call.Prompt the_prompt ∷ answer-call ∷ session-call ∷ calls) b (c ∷ d ∷ e ∷ more) s1 one.rest in
    let s2 = replay s1 (turn the_connection s1 b) in
    let l2 =
    led (call.CreateCollection the_name None) b s1 one-left two-left (body.ObjectAndPrompt (codes "/") (Some the_prompt)) l1.leaves two.is.call_is (λ reply s. refl) (creates s1.connections aliases b.salt b.now b.fates) in
    let fits-two : Fits s1 (arrival the_connection b) = two.legal.0 in
    let eight : length b.salt ≡ 8 = fits-two.1.salt.eight in
    let three = first-of all 3 (call.Prompt the_prompt) (answer-call ∷ session-call ∷ calls) c (d ∷ e ∷ more) s2 two.rest in
    let s3 = replay s2 (turn the_connection s2 c) in
    let l3 = led (call.Prompt the_prompt) c s2 two-left three-left body.Empty l2.leaves three.is.call_is (λ reply s. refl) (prompts s2.connections aliases c.salt c.now c.fates b.salt) in
    let four = first-of all 4 answer-call (session-call ∷ calls) d (e ∷ more) s3 three.rest in
    let s4 = replay s3 (turn the_connection s3 d) in
    let leads = answers s3.connections aliases d.salt d.now d.fates b.salt in
    let same = at-tables answer-call d s3 three-left l3.leaves four.is.call_is in
    let ran = served (recorded_of the_connection d) s3 in
    let answer4 : ran.answer ≡ Ok body.Empty = ap (λ (r : Ran). r.answer) same ∙ leads.answer in
    let leaves4 : tables ran.state ≡ four-left = ap (λ (r : Ran). tables r.state) same ∙ leads.leaves in
    let work : work_for the_connection s3 d ≡ Some (the_work b.salt) =
    work-call answer-call d s3 four.is.call_is ∙ (λ i. work_of (Ok answer-call) (answer4 i) (with_tables ran.state.connections (leaves4 i))) ∙ works ran.state.connections aliases b.salt in
    let keyed : is_some d.key ≡ true = four.finished ∙ ap (λ (w : Option Work). is_some w) work in
    let l4 = made-by-key aliases b.salt d s3 eight four.legal four.faultless.1 work keyed leaves4 in
    let rows : Rows = (the_name, new_collection b.salt l4.0) ∷ [] in
    let five = first-of all 5 session-call calls e more s4 four.rest in
    let s5 = replay s4 (turn the_connection s4 e) in
    let collection = new_collection b.salt l4.0 in
    let last = tables_with (registered 2) aliases (the_name ∷ []) collection in
    let l5 : Led e s4 (body.Session (record { 0 = 1 })) last =
    led session-call e s4 (opening_tables aliases (the_name ∷ []) (registered 2) rows) last (body.Session (record { 0 = 1 })) l4.1 five.is.call_is (λ reply s. refl)
    (opens s4.connections aliases e.salt e.now e.fates (registered 2) rows (the_name ∷ [])) in
    let has : HasItems seed [] (tables s5) =
    record {
      image = making.file_of (new_plan b.salt l4.0);
      front = collection.clear;
      key = key_of (new_plan b.salt l4.0).key;
      vector = vector_of (new_plan b.salt l4.0).key;
      prompts = registered 2;
      aliases = aliases;
      used = the_name ∷ [];
      is_front = new-front b.salt l4.0 eight;
      items = tt;
      are = l5.leaves;
    } in
    counted-on seed all none after call.Register 1 a (b ∷ c ∷ d ∷ e ∷ more) state body.Empty one.is one.placed tt refl l1.answer
    (counted-on seed all none after (call.CreateCollection the_name None) 2 b (c ∷ d ∷ e ∷ more) s1 (body.ObjectAndPrompt (codes "/") (Some the_prompt)) two.is two.placed (omega arith) refl l2.answer
    (counted-on seed all none after (call.Prompt the_prompt) 3 c (d ∷ e ∷ more) s2 body.Empty three.is three.placed tt refl l3.answer
    (counted-on seed all none after answer-call 4 d (e ∷ more) s3 body.Empty four.is four.placed tt refl answer4
    (counted-on seed all none after session-call 5 e more s4 (body.Session (record { 0 = 1 })) five.is five.placed (omega arith) refl l5.answer (next 6 more s5 five.rest has)))))
