-- What is counted over the replies to all calls of a load.
use Rattle.std.proofs.Common.{◌≡◌, ℕ, zero, suc, ◌+◌, ◌≤◌, List, [], ◌∷◌, ◌++◌, length, Some, slice_get, refl, sym, ap, ◌∙◌, subst, arith, length-append, append_assoc}
use Rattle.connection_worker.specs.service_events.specs.service_tables.specs.keyring_seal.specs.Arranged.{Row}
use Rattle.connection_worker.specs.service_events.specs.secret_calls.specs.declared.call.Call.{Call}
use Rattle.prompt_state.specs.Prompts.{no_prompts}
use Rattle.connection_worker.specs.service_events.specs.service_tables.specs.Opened.{Contents, opened_state}
use Rattle.connection_worker.specs.service_events.specs.service_tables.specs.Sound.{AreSoundContents, IsSound}
use Rattle.connection_worker.specs.service_events.specs.service_tables.specs.State.{State}
use Rattle.connection_worker.specs.service_events.specs.declared.event.Event.TheVariants as event
use Rattle.connection_worker.specs.service_events.specs.Replay.{Legal}
use Rattle.connection_worker.specs.service_events.proofs.SoundLemmas.{sound_start, sound_step}
use Rattle.connection_worker.specs.service_events.specs.Single.{AllFaultless, AllFinished, TimedRequest, turns}
use Rattle.load_plan.specs.declared.counts.Counts.{Counts}
use Rattle.load_plan.specs.Counts.{none}
use Rattle.load_plan.specs.Answered.{call_with}
use Rattle.load_plan.specs.Plan.{create, first, opening, plan, read, search}
use Rattle.load_laws.specs.Made.{made}
use Rattle.load_laws.specs.Outputs.{started}
use Rattle.load_laws.specs.Requests.{AreAsked, HasFrom, the_connection}
use Rattle.load_laws.proofs.CountLemmas.{Leaves, counts_of, creates-count, opening-count, reads-count, searches-count}
use Rattle.load_laws.proofs.CreateLemmas.{HasItems}
use Rattle.load_laws.proofs.ListLemmas.{made-more}
use Rattle.load_laws.proofs.OpeningLemmas.{opening_tables}
use Rattle.load_laws.proofs.SearchLemmas.{below, below-all, below-none}
use Rattle.load_laws.proofs.TurnLemmas.{Runs, tables}

-- ---- the calls

first-made : (f : ℕ → Call) (n : ℕ) → first f n ≡ made f 0 n
first-made f zero = refl
first-made f (suc n) = (λ i. first-made f n i ++ f (let e : n ≡ 0 + n = omega arith in e i) ∷ []) ∙ made-more f 0 n

-- the calls after the opening
abbrev pub behind : ℕ → ℕ → List Call
behind items seed = made (create seed) 0 items ++ (made search 0 10 ++ made read 0 items)

pub plan-made : (items seed : ℕ) → plan items seed ≡ opening ++ behind items seed
plan-made items seed = λ i. opening ++ (first-made (create seed) items i ++ (first-made search 10 i ++ first-made read items i))

got : (before : List Call) (it : Call) (calls : List Call) → slice_get (before ++ it ∷ calls) (length before) ≡ Some it
got [] it calls = refl
got (one ∷ before) it calls = got before it calls

with-serial : (before : List Call) (it : Call) (calls : List Call) (serial : ℕ) → serial ≡ suc (length before) → call_with (before ++ it ∷ calls) serial ≡ Some it
with-serial before it calls serial is = ap (call_with (before ++ it ∷ calls)) is ∙ got before it calls

has-from : (before calls : List Call) (serial : ℕ) → serial ≡ suc (length before) → HasFrom (before ++ calls) serial calls
has-from before [] serial is = tt
has-from before (it ∷ calls) serial is = (
  with-serial before it calls serial is,
  subst (λ l. HasFrom l (suc serial) calls) (append_assoc before (it ∷ []) calls) (has-from (before ++ it ∷ []) calls (suc serial) (omega (arith, is, length-append before (it ∷ [])))),
)

-- ---- the start

pub tables-start : (contents : Contents) → contents.collections ≡ [] → contents.used ≡ [] → tables (started contents) ≡ opening_tables contents.aliases [] no_prompts []
tables-start contents none unused = λ i. opening_tables contents.aliases (unused i) no_prompts (none i)

-- it is sound
pub sound-started : (contents : Contents) → AreSoundContents contents → IsSound (started contents)
sound-started contents sound = sound_step (opened_state contents) (event.Connect the_connection) (sound_start contents sound) (refl, omega arith, omega arith)

-- ---- all calls

pub load-counts : (items seed : ℕ) (contents : Contents) (asked : List TimedRequest) → items ≤ 1000 → contents.collections ≡ [] → contents.used ≡ [] → AreAsked 1 (plan items seed) asked
    → Legal (started contents) (turns the_connection (started contents) asked) → AllFaultless asked → AllFinished the_connection (started contents) asked
    → Leaves seed (plan items seed) none asked (started contents) (counts_of items items items)
load-counts items seed contents asked few empty unused are legal faultless finished =
    let all = plan items seed in
    let state = started contents in
    let after = counts_of items items items in
    let reading = made read 0 items in
    let searching = made search 0 10 ++ reading in
    let creating = made (create seed) 0 items ++ searching in
    let runs : Runs all 1 all asked state = record { are = are; places = has-from [] all 1 refl; legal = legal; faultless = faultless; finished = finished } in
    let turned : Runs all 1 (opening ++ creating) asked state = subst (λ calls. Runs all 1 calls asked state) (plan-made items seed) runs in
    let zero-and : 0 + items ≡ items = omega arith in
    let read-all : (serial : ℕ) (asked : List TimedRequest) (state : State) (rows : List Row) → Runs all serial reading asked state → HasItems seed rows (tables state) → length rows ≡ 0 + items
    → Leaves seed all (counts_of (0 + items) (below seed (0 + 10) 0 (length rows)) 0) asked state after =
    λ serial asked state rows runs has long. (
    let found : below seed 10 0 (length rows) ≡ items = below-all seed 0 (length rows) ∙ long ∙ zero-and in
    subst (λ (c : Counts). Leaves seed all (counts_of (0 + items) (below seed (0 + 10) 0 (length rows)) 0) asked state c) (λ i. counts_of (zero-and i) (found i) (zero-and i))
    (reads-count seed all (0 + items) (below seed 10 0 (length rows)) 0 items serial asked state rows runs has (sym long) (omega (arith, long, few)))
    ) in
    let search-all : (serial : ℕ) (asked : List TimedRequest) (state : State) (rows : List Row) → Runs all serial searching asked state → HasItems seed rows (tables state) → length rows ≡ 0 + items
    → Leaves seed all (counts_of (0 + items) 0 0) asked state after =
    λ serial asked state rows runs has long.
    subst (λ f. Leaves seed all (counts_of (0 + items) f 0) asked state after) (below-none seed 0 (length rows))
    (searches-count seed all (0 + items) after reading 0 10 serial asked state rows runs has (omega (arith, long, few)) (omega arith)
    (λ serial' asked' state' runs' has'. read-all serial' asked' state' rows runs' has' long)) in
    opening-count seed all after creating contents.aliases asked state turned (tables-start contents empty unused)
    (λ serial asked' state' runs' has'. creates-count seed all after searching 0 items serial asked' state' [] runs' has' refl (omega (arith, few)) search-all)
