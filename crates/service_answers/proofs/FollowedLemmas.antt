-- What a plan leads to that is followed by more changes, if none of its answers is too large: to what it leads to itself, and then to what these
-- lead to.
use Rattle.std.proofs.Common.{◌≡◌, ℕ, Bool, true, false, List, [], ◌∷◌, ◌++◌, Ok, refl, ap, sym, subst, ◌∙◌, append_assoc}
use Rattle.kr_base.specs.declared.ids.ConnId.{ConnId}
use Rattle.kr_outside.specs.RenameDisk.{Image}
use Rattle.service_calls.specs.secret_calls.specs.declared.out.Body.TheVariants as body
use Rattle.service_calls.specs.secret_calls.specs.declared.out.ErrorName.TheVariants as name
use Rattle.service_calls.specs.service_tables.specs.Connections.{spread}
use Rattle.service_calls.specs.service_tables.specs.Disk.{DiskState}
use Rattle.service_calls.specs.service_tables.specs.Opened.{contents_of}
use Rattle.service_calls.specs.service_tables.specs.Sent.{Sent}
use Rattle.service_calls.specs.service_tables.specs.State.{State}
use Rattle.service_calls.specs.service_tables.specs.Storing.{Brought}
use Rattle.service_calls.specs.service_tables.specs.declared.fate.Fate.{Fate}
use Rattle.service_calls.specs.service_tables.specs.declared.fate.Fate.TheVariants as fate
use Rattle.service_calls.specs.service_tables.specs.declared.fate.ReadFate.{ReadFate}
use Rattle.service_calls.specs.service_tables.specs.declared.fate.ReadFate.TheVariants as read
use Rattle.service_calls.specs.service_tables.specs.declared.fate.StoreFate.{StoreFate}
use Rattle.service_calls.specs.service_tables.specs.declared.fate.StoreFate.TheVariants as stored
use Rattle.service_calls.specs.service_tables.specs.signal_fanout.specs.declared.rows.Delivery.{Delivery}
use Rattle.service_calls.specs.service_tables.proofs.SpreadLemmas.{spread-append}
use Rattle.service_calls.specs.declared.storing.Done.{Done}
use Rattle.service_calls.specs.service_events.specs.Plan.{Answer, Change, Plan, Ends, Asks, Resolves, Opens, Gives, Questions, Refuses, Returns, followed}
use Rattle.service_calls.specs.service_events.specs.PublicBody.{body_with}
use Rattle.service_calls.specs.service_events.specs.Run.{AreFates, AreNone, Ran, asked, by_read, by_reading, by_store, by_test, demanded, failing, filled, fits, is_in_doubt, is_small, performed, performed_all, promised, run, sending, sent_all, sent_asked, sent_by, sent_opened, sent_settled, settled, unlocked_with}
use Rattle.service_calls.specs.service_events.specs.Stored.{StoresDemand, StoresOf, StoresReading}
use Rattle.service_calls.specs.Done.{Leads, fates_in}
use Rattle.service_calls.specs.service_events.proofs.SmallLemmas.{empty-small}

-- ---- changes after others

pub performed-more : (caller : ConnId) (changes more : List Change) (state : State) → performed_all caller (changes ++ more) state ≡ performed_all caller more (performed_all caller changes state)
performed-more caller [] more state = refl
performed-more caller (change ∷ changes) more state = performed-more caller changes more (performed caller change state)

pub sent-more : (caller : ConnId) (changes more : List Change) (state : State) → sent_all caller (changes ++ more) state ≡ sent_all caller changes state ++ sent_all caller more (performed_all caller changes state)
sent-more caller [] more state = refl
sent-more caller (change ∷ changes) more state =
    let after = performed caller change state in
    ap (λ s. sent_by caller change state ++ s) (sent-more caller changes more after)
    ∙ sym (append_assoc (sent_by caller change state) (sent_all caller changes after) (sent_all caller more (performed_all caller changes after)))

-- ---- plans whose answers are small, whatever they ask

-- an answer is small by itself
abbrev IsShort : Answer → Type 0
IsShort (Returns its) = is_small (body_with its) ≡ true
IsShort (Gives gift) = ⊥
IsShort (Refuses name) = Unit {0}

-- each answer of a plan is
abbrev pub AreShort : Plan → Type 0
AreShort (Ends answer changes) = IsShort answer
AreShort (Asks demand next) = (ended : StoreFate) → AreShort (next ended)
AreShort (Resolves reading unread next) = AreShort unread × ((its : Questions) → AreShort (next its))
AreShort (Opens stem terms next) = AreShort next

-- one thing if a test is so, and the other if it isn't
true-goes {ℓ} : {A : Type ℓ} (b : Bool) (one other : A) → b ≡ true → by_test b one other ≡ one
true-goes b one other is = ap (λ b. by_test b one other) is

true-from : (b : Bool) (one other : Type 0) → b ≡ true → by_test b one other → one
true-from b one other is it = subst (λ b. by_test b one other) is it

true-to : (b : Bool) (one other : Type 0) → b ≡ true → one → by_test b one other
true-to b one other is it = subst (λ b. by_test b one other) (sym is) it

module _ (caller : ConnId) (state : State) where
  short-filled : (answer : Answer) → IsShort answer → fits (filled caller state answer) ≡ true
  short-filled (Returns its) short = short
  short-filled (Gives gift) short = absurd short
  short-filled (Refuses name) short = refl

  -- what such a plan answers fits
  short-promised : (plan : Plan) → AreShort plan → fits (promised caller state plan) ≡ true
  short-promised (Ends answer changes) short = short-filled answer short
  short-promised (Asks demand next) short = short-promised (next stored.Stored) (short stored.Stored)
  short-promised (Resolves reading unread next) short = empty-small
  short-promised (Opens stem terms next) short = empty-small

  -- and so does what a plan answers that is followed by changes
  followed-promised : (more : List Change) (plan : Plan) → fits (promised caller state (followed more plan)) ≡ true
  followed-promised more (Ends answer changes) = empty-small
  followed-promised more (Asks demand next) = followed-promised more (next stored.Stored)
  followed-promised more (Resolves reading unread next) = empty-small
  followed-promised more (Opens stem terms next) = empty-small

-- ---- changes after a plan

module _ (caller : ConnId) (brought : Brought) (more : List Change) where
  -- what a plan led to, and then these changes
  abbrev and-then : Ran → Ran
  and-then ran = record { answer = Ok body.Empty; state = performed_all caller more ran.state; sends = ran.sends ++ sent_all caller more ran.state }

  sending-then : (sends : List Sent) (ran : Ran) → sending sends (and-then ran) ≡ and-then (sending sends ran)
  sending-then sends ran =
      let same = sym (append_assoc sends ran.sends (sent_all caller more ran.state)) in
      λ i. record { answer = Ok body.Empty; state = performed_all caller more ran.state; sends = same i }

  store-then : (none : Ran) (first second : StoreFate → List Fate → Ran) (are : StoreFate → List Fate → Type 0)
      → ((ended : StoreFate) (rest : List Fate) → are ended rest → first ended rest ≡ and-then (second ended rest)) → (fates : List Fate) → by_store ⊥ are fates
      → by_store none first fates ≡ and-then (by_store none second fates)
  store-then none first second are same [] is = absurd is
  store-then none first second are same (fate.Store ended ∷ rest) is = same ended rest is
  store-then none first second are same (fate.Read ended ∷ rest) is = absurd is

  read-then : (none : Ran) (first second : ReadFate → List Fate → Ran) (are : ReadFate → List Fate → Type 0)
      → ((ended : ReadFate) (rest : List Fate) → are ended rest → first ended rest ≡ and-then (second ended rest)) → (fates : List Fate) → by_read ⊥ are fates
      → by_read none first fates ≡ and-then (by_read none second fates)
  read-then none first second are same [] is = absurd is
  read-then none first second are same (fate.Store ended ∷ rest) is = absurd is
  read-then none first second are same (fate.Read ended ∷ rest) is = same ended rest is

  reading-then : (ended : ReadFate) (one other first second : Ran) (are its : Type 0) → (are → one ≡ and-then first) → (its → other ≡ and-then second) → by_reading ended are its
      → by_reading ended one other ≡ and-then (by_reading ended first second)
  reading-then read.ReadFailed one other first second are its left right is = left is
  reading-then read.Old one other first second are its left right is = right is
  reading-then read.New one other first second are its left right is = right is
  reading-then read.Other one other first second are its left right is = right is

  pub followed-run : (plan : Plan) → AreShort plan → (fates : List Fate) (state : State) → AreFates caller brought plan fates state
      → run caller brought (followed more plan) fates state ≡ and-then (run caller brought plan fates state)
  followed-run (Ends answer changes) short fates state are =
      let after = performed_all caller changes state in
      let its : Ran = record { answer = filled caller state answer; state = after; sends = sent_all caller changes state } in
      true-goes (is_small body.Empty) (record { answer = Ok body.Empty; state = performed_all caller (changes ++ more) state; sends = sent_all caller (changes ++ more) state }) (failing name.LimitsExceeded state) empty-small
      ∙ (λ i. record { answer = Ok body.Empty; state = performed-more caller changes more state i; sends = sent-more caller changes more state i })
      ∙ ap and-then (sym (true-goes (fits (filled caller state answer)) its (failing name.LimitsExceeded state) (short-filled caller state answer short)))
  followed-run (Asks demand next) short fates state are =
      let after : StoreFate → State = λ ended. demanded brought demand ended state in
      let first : StoreFate → List Fate → Ran = λ ended rest. sending (sent_asked brought demand ended state) (run caller brought (followed more (next ended)) rest (after ended)) in
      let second : StoreFate → List Fate → Ran = λ ended rest. sending (sent_asked brought demand ended state) (run caller brought (next ended) rest (after ended)) in
      let each : StoreFate → List Fate → Type 0 = λ ended rest. AreFates caller brought (next ended) rest (after ended) in
      let fit = short-promised caller state (next stored.Stored) (short stored.Stored) in
      true-goes (fits (promised caller state (followed more (next stored.Stored)))) (by_store (failing name.IOError state) first fates) (failing name.LimitsExceeded state) (followed-promised caller state more (next stored.Stored))
      ∙ fates-go first second each
      (λ ended rest is. ap (sending (sent_asked brought demand ended state)) (followed-run (next ended) (short ended) rest (after ended) is) ∙ sending-then (sent_asked brought demand ended state) (run caller brought (next ended) rest (after ended)))
      (true-from (fits (promised caller state (next stored.Stored))) (by_store ⊥ each fates) (AreNone fates) fit are)
      ∙ ap and-then (sym (true-goes (fits (promised caller state (next stored.Stored))) (by_store (failing name.IOError state) second fates) (failing name.LimitsExceeded state) fit))
    where
      fates-go : (first second : StoreFate → List Fate → Ran) (each : StoreFate → List Fate → Type 0) → ((ended : StoreFate) (rest : List Fate) → each ended rest → first ended rest ≡ and-then (second ended rest))
          → by_store ⊥ each fates → by_store (failing name.IOError state) first fates ≡ and-then (by_store (failing name.IOError state) second fates)
      fates-go first second each same is = store-then (failing name.IOError state) first second each same fates is
  followed-run (Resolves reading unread next) short fates state are =
      let after : ReadFate → State = λ ended. settled reading ended state in
      let first : ReadFate → List Fate → Ran =
      λ ended rest. sending (sent_settled reading ended state) (by_reading ended (run caller brought (followed more unread) rest (after ended)) (run caller brought (followed more (next (asked caller brought (after ended)))) rest (after ended))) in
      let second : ReadFate → List Fate → Ran =
      λ ended rest. sending (sent_settled reading ended state) (by_reading ended (run caller brought unread rest (after ended)) (run caller brought (next (asked caller brought (after ended))) rest (after ended))) in
      let each : ReadFate → List Fate → Type 0 =
      λ ended rest. by_reading ended (AreFates caller brought unread rest (after ended)) (AreFates caller brought (next (asked caller brought (after ended))) rest (after ended)) in
      let same : (ended : ReadFate) (rest : List Fate) → each ended rest → first ended rest ≡ and-then (second ended rest) =
      λ ended rest is.
      ap (sending (sent_settled reading ended state))
      (reading-then ended (run caller brought (followed more unread) rest (after ended)) (run caller brought (followed more (next (asked caller brought (after ended)))) rest (after ended))
      (run caller brought unread rest (after ended)) (run caller brought (next (asked caller brought (after ended))) rest (after ended)) (AreFates caller brought unread rest (after ended)) (AreFates caller brought (next (asked caller brought (after ended))) rest (after ended))
      (followed-run unread short.0 rest (after ended)) (followed-run (next (asked caller brought (after ended))) (short.1 (asked caller brought (after ended))) rest (after ended)) is)
      ∙ sending-then (sent_settled reading ended state) (by_reading ended (run caller brought unread rest (after ended)) (run caller brought (next (asked caller brought (after ended))) rest (after ended))) in
      let pass : (b : Bool) → by_test b (by_read ⊥ each fates) (AreFates caller brought (next (asked caller brought state)) fates state)
      → by_test b (by_read (failing name.IOError state) first fates) (run caller brought (followed more (next (asked caller brought state))) fates state)
      ≡ and-then (by_test b (by_read (failing name.IOError state) second fates) (run caller brought (next (asked caller brought state)) fates state)) =
      elim [ true ↦ λ is. read-then (failing name.IOError state) first second each same fates is | false ↦ λ is. followed-run (next (asked caller brought state)) (short.1 (asked caller brought state)) fates state is ] in
      pass (is_in_doubt reading state) are
  followed-run (Opens stem terms next) short fates state are =
      let after = unlocked_with brought stem terms state in
      ap (sending (sent_opened brought stem terms state)) (followed-run next short fates after are) ∙ sending-then (sent_opened brought stem terms state) (run caller brought next fates after)

-- ---- its fates, and what it stores

store-goes : (first second : StoreFate → List Fate → Type 0) → ((ended : StoreFate) (rest : List Fate) → first ended rest → second ended rest) → (fates : List Fate)
    → by_store ⊥ first fates → by_store ⊥ second fates
store-goes first second goes [] are = are
store-goes first second goes (fate.Store ended ∷ rest) are = goes ended rest are
store-goes first second goes (fate.Read ended ∷ rest) are = are

read-goes : (first second : ReadFate → List Fate → Type 0) → ((ended : ReadFate) (rest : List Fate) → first ended rest → second ended rest) → (fates : List Fate)
    → by_read ⊥ first fates → by_read ⊥ second fates
read-goes first second goes [] are = are
read-goes first second goes (fate.Store ended ∷ rest) are = are
read-goes first second goes (fate.Read ended ∷ rest) are = goes ended rest are

reading-goes : (ended : ReadFate) (one other first second : Type 0) → (one → first) → (other → second) → by_reading ended one other → by_reading ended first second
reading-goes read.ReadFailed one other first second left right are = left are
reading-goes read.Old one other first second left right are = right are
reading-goes read.New one other first second left right are = right are
reading-goes read.Other one other first second left right are = right are

module _ (caller : ConnId) (brought : Brought) (more : List Change) where
  pub followed-fates : (plan : Plan) → AreShort plan → (fates : List Fate) (state : State) → AreFates caller brought plan fates state → AreFates caller brought (followed more plan) fates state
  followed-fates (Ends answer changes) short fates state are = are
  followed-fates (Asks demand next) short fates state are =
      let after : StoreFate → State = λ ended. demanded brought demand ended state in
      true-to (fits (promised caller state (followed more (next stored.Stored)))) (by_store ⊥ (λ ended rest. AreFates caller brought (followed more (next ended)) rest (after ended)) fates) (AreNone fates)
      (followed-promised caller state more (next stored.Stored))
      (store-goes _ _ (λ ended rest is. followed-fates (next ended) (short ended) rest (after ended) is) fates
      (true-from (fits (promised caller state (next stored.Stored))) (by_store ⊥ (λ ended rest. AreFates caller brought (next ended) rest (after ended)) fates) (AreNone fates)
      (short-promised caller state (next stored.Stored) (short stored.Stored)) are))
  followed-fates (Resolves reading unread next) short fates state are =
      let after : ReadFate → State = λ ended. settled reading ended state in
      let first : ReadFate → List Fate → Type 0 =
      λ ended rest. by_reading ended (AreFates caller brought unread rest (after ended)) (AreFates caller brought (next (asked caller brought (after ended))) rest (after ended)) in
      let second : ReadFate → List Fate → Type 0 =
      λ ended rest. by_reading ended (AreFates caller brought (followed more unread) rest (after ended)) (AreFates caller brought (followed more (next (asked caller brought (after ended)))) rest (after ended)) in
      let goes : (ended : ReadFate) (rest : List Fate) → first ended rest → second ended rest =
      λ ended rest is. reading-goes ended (AreFates caller brought unread rest (after ended)) (AreFates caller brought (next (asked caller brought (after ended))) rest (after ended))
      (AreFates caller brought (followed more unread) rest (after ended)) (AreFates caller brought (followed more (next (asked caller brought (after ended)))) rest (after ended))
      (followed-fates unread short.0 rest (after ended)) (followed-fates (next (asked caller brought (after ended))) (short.1 (asked caller brought (after ended))) rest (after ended)) is in
      let pass : (b : Bool) → by_test b (by_read ⊥ first fates) (AreFates caller brought (next (asked caller brought state)) fates state)
      → by_test b (by_read ⊥ second fates) (AreFates caller brought (followed more (next (asked caller brought state))) fates state) =
      elim [ true ↦ λ is. read-goes first second goes fates is | false ↦ λ is. followed-fates (next (asked caller brought state)) (short.1 (asked caller brought state)) fates state is ] in
      pass (is_in_doubt reading state) are
  followed-fates (Opens stem terms next) short fates state are = followed-fates next short fates (unlocked_with brought stem terms state) are

module _ {F S : Type 0} (folder_honest folder_steady : F → Bool) (folder_faults : F → ℕ) (images : F → List ℕ → Image) (folder_leaves : F → List ℕ → Image → Type 0) (names_made : F → List (List ℕ)) (is_honest is_steady : S → Bool) (faults moment : S → ℕ) (left_since : S → ℕ → Image → Type 0) (may_leave : S → Image → Type 0) (caller : ConnId) (brought : Brought)
    (more : List Change) where
  abbrev Of : Plan → List Fate → State → DiskState F S → DiskState F S → Type 0
  Of plan fates state old new = StoresOf folder_honest folder_steady folder_faults images folder_leaves names_made is_honest is_steady faults moment left_since may_leave caller brought plan fates state old new

  pub followed-stores : (plan : Plan) → AreShort plan → (fates : List Fate) (state : State) (old new : DiskState F S) → Of plan fates state old new → Of (followed more plan) fates state old new
  followed-stores (Ends answer changes) short fates state old new stores = stores
  followed-stores (Asks demand next) short fates state old new stores =
      let after : StoreFate → State = λ ended. demanded brought demand ended state in
      let its : StoreFate → DiskState F S → Type 0 =
      λ ended mid. StoresDemand folder_honest folder_steady folder_faults images folder_leaves names_made is_honest is_steady faults moment left_since may_leave demand ended (contents_of state) (contents_of (after ended)) old mid in
      true-to (fits (promised caller state (followed more (next stored.Stored)))) (by_store ⊥ (λ ended rest. (mid : DiskState F S) × its ended mid × Of (followed more (next ended)) rest (after ended) mid new) fates) (new ≡ old)
      (followed-promised caller state more (next stored.Stored))
      (store-goes _ _ (λ ended rest is. (is.0, is.1, followed-stores (next ended) (short ended) rest (after ended) is.0 new is.2)) fates
      (true-from (fits (promised caller state (next stored.Stored))) (by_store ⊥ (λ ended rest. (mid : DiskState F S) × its ended mid × Of (next ended) rest (after ended) mid new) fates) (new ≡ old)
      (short-promised caller state (next stored.Stored) (short stored.Stored)) stores))
  followed-stores (Resolves reading unread next) short fates state old new stores =
      let after : ReadFate → State = λ ended. settled reading ended state in
      let its : ReadFate → DiskState F S → Type 0 =
      λ ended mid. StoresReading folder_honest folder_steady folder_faults images folder_leaves names_made is_honest is_steady faults moment left_since may_leave reading ended (contents_of state) (contents_of (after ended)) old mid in
      let first : ReadFate → List Fate → Type 0 =
      λ ended rest. (mid : DiskState F S) × its ended mid × by_reading ended (Of unread rest (after ended) mid new) (Of (next (asked caller brought (after ended))) rest (after ended) mid new) in
      let second : ReadFate → List Fate → Type 0 =
      λ ended rest. (mid : DiskState F S) × its ended mid × by_reading ended (Of (followed more unread) rest (after ended) mid new) (Of (followed more (next (asked caller brought (after ended)))) rest (after ended) mid new) in
      let goes : (ended : ReadFate) (rest : List Fate) → first ended rest → second ended rest =
      λ ended rest is. (
        is.0,
        is.1,
        reading-goes ended (Of unread rest (after ended) is.0 new) (Of (next (asked caller brought (after ended))) rest (after ended) is.0 new)
            (Of (followed more unread) rest (after ended) is.0 new) (Of (followed more (next (asked caller brought (after ended)))) rest (after ended) is.0 new)
            (followed-stores unread short.0 rest (after ended) is.0 new) (followed-stores (next (asked caller brought (after ended))) (short.1 (asked caller brought (after ended))) rest (after ended) is.0 new) is.2,
      ) in
      let pass : (b : Bool) → by_test b (by_read ⊥ first fates) (Of (next (asked caller brought state)) fates state old new)
      → by_test b (by_read ⊥ second fates) (Of (followed more (next (asked caller brought state))) fates state old new) =
      elim [ true ↦ λ is. read-goes first second goes fates is | false ↦ λ is. followed-stores (next (asked caller brought state)) (short.1 (asked caller brought state)) fates state old new is ] in
      pass (is_in_doubt reading state) stores
  followed-stores (Opens stem terms next) short fates state old new stores = followed-stores next short fates (unlocked_with brought stem terms state) old new stores

  -- A call led to what a plan does, and then these changes were performed: the state, what was sent and the fates are those of the plan
  -- that is followed by them, and so is the disk.
  pub leads-followed : (plan : Plan) → AreShort plan → (before mid after : State) (old new final : DiskState F S) (done : Done) (sends : List Delivery)
      → Leads folder_honest folder_steady folder_faults images folder_leaves names_made is_honest is_steady faults moment left_since may_leave caller brought plan before mid old new done
      → after ≡ performed_all caller more mid → sends ≡ done.sends ++ spread before.connections.rows (sent_all caller more mid) → final ≡ new
      → (after ≡ (run caller brought (followed more plan) (fates_in done) before).state)
      × (sends ≡ spread before.connections.rows (run caller brought (followed more plan) (fates_in done) before).sends)
      × AreFates caller brought (followed more plan) (fates_in done) before
      × Of (followed more plan) (fates_in done) before old final
  leads-followed plan short before mid after old new final done sends leads performs sent same =
      let fates = fates_in done in
      let rows = before.connections.rows in
      let ran = run caller brought plan fates before in
      let whole = followed-run caller brought more plan short fates before leads.fates in (
        performs ∙ ap (performed_all caller more) leads.state ∙ sym (ap (λ (r : Ran). r.state) whole),
        sent ∙ (λ i. leads.sends i ++ spread rows (sent_all caller more (leads.state i))) ∙ sym (spread-append rows ran.sends (sent_all caller more ran.state))
            ∙ sym (ap (λ (r : Ran). spread rows r.sends) whole),
        followed-fates caller brought more plan short fates before leads.fates,
        subst (λ d. Of (followed more plan) fates before old d) (sym same) (followed-stores plan short fates before old new leads.disk),
      )
