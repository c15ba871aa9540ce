-- How each storing and each resolve of an event ends is one thing if no device fails: unless a file is in doubt, nothing asks for a
-- resolve, and each storing is done.
use Rattle.std.proofs.Common.{◌≡◌, ℕ, Bool, true, false, List, [], ◌∷◌, Option, Some, None, Result, refl, sym, subst, ◌∙◌}
use Rattle.kr_base.specs.Attributes.{value_at}
use Rattle.kr_base.specs.declared.ids.ConnId.{ConnId}
use Rattle.service_prompts.specs.collection_table.specs.Rows.{CollectionRow, Rows}
use Rattle.service_prompts.specs.secret_calls.specs.declared.call.Call.{Call}
use Rattle.service_prompts.specs.secret_calls.specs.declared.call.CallFault.{CallFault}
use Rattle.service_prompts.specs.service_tables.specs.declared.fate.Fate.{Fate}
use Rattle.service_prompts.specs.service_tables.specs.declared.fate.Fate.TheVariants as fate
use Rattle.service_prompts.specs.service_tables.specs.declared.fate.StoreFate.{StoreFate}
use Rattle.service_prompts.specs.service_tables.specs.declared.fate.StoreFate.TheVariants as stored
use Rattle.service_disk.specs.Resolving.{is_doubtful}
use Rattle.service_disk.proofs.ResolvingLemmas.{doubt-unknown}
use Rattle.service_prompts.specs.service_tables.specs.Slots.{IsFault}
use Rattle.service_prompts.specs.service_tables.specs.Sound.{AreKnown}
use Rattle.service_prompts.specs.service_tables.specs.State.{State}
use Rattle.service_prompts.specs.service_tables.specs.Storing.{Brought}
use Rattle.service_prompts.specs.service_tables.proofs.CollectionLemmas.{at-stem}
use Rattle.service_events.specs.declared.event.Event.TheVariants as event
use Rattle.service_events.specs.declared.event.Recorded.{Recorded}
use Rattle.service_events.specs.Fates.{AreFaultless, IsCertain}
use Rattle.service_events.specs.Plan.{Aliases_file, Collection_file, Plan, Ends, Asks, Resolves, Opens, Reading}
use Rattle.service_events.specs.Run.{AreFates, AreNone, asked, by_read, by_reading, by_store, by_test, demanded, fits, is_in_doubt, promised, settled, unlocked_with}
use Rattle.service_events.proofs.CertainLemmas.{demanded-certain, opened-certain}
use Rattle.service_events.specs.Step.{AreAlike, Fits, brought_derived, terms_of}
use Rattle.service_events.proofs.AlikeLemmas.{brings, moment-fates, plan}
use Rattle.service_events.proofs.RunLemmas.{none-is}
use Rattle.service_events.specs.Derivation.{derived}
use Rattle.service_events.specs.declared.event.Derivation.{Derivation}

-- ---- no collection is in doubt

stem-certain : (stem : List ℕ) (rows : Rows) → AreKnown rows → is_doubtful stem rows ≡ false
stem-certain stem rows known =
    let pass : (b : Bool) (o : Option CollectionRow) → value_at stem rows ≡ o → is_doubtful stem rows ≡ b → b ≡ false =
    elim [
      | false ↦ λ o at doubt. refl
      | true ↦ elim [
        | None ↦ λ at doubt. sym (rw at at doubt)
        | Some row ↦ λ at doubt. absurd (doubt-unknown row.file (rw at at doubt) (at-stem _ stem row rows known at))
      ]
    ] in
    pass (is_doubtful stem rows) (value_at stem rows) refl refl

-- a file isn't read again
known-reading : (reading : Reading) (state : State) → IsCertain state → is_in_doubt reading state ≡ false
known-reading Aliases_file state certain = certain.aliases
known-reading (Collection_file stem) state certain = stem-certain stem state.collections certain.collections

-- ---- fates without a fault

storing-is : (some : StoreFate) → (IsFault (fate.Store some) → ⊥) → some ≡ stored.Stored
storing-is stored.Stored none = refl
storing-is stored.Before none = absurd (none tt)
storing-is stored.Unsure none = absurd (none tt)

-- So whatever a plan is, its storings were done, and nothing was read again.
same-fates : (caller : ConnId) (brought : Brought) (its : Plan) (these those : List Fate) (state : State) → AreFates caller brought its these state → AreFates caller brought its those state
    → IsCertain state → AreFaultless these → AreFaultless those → these ≡ those
same-fates caller brought (Ends answer changes) these those state are also certain clean others = none-is these are ∙ sym (none-is those also)
same-fates caller brought (Asks demand next) these those state are also certain clean others =
    let Has : List Fate → Type 0 = by_store ⊥ (λ ended rest. AreFates caller brought (next ended) rest (demanded brought demand ended state)) in
    let both : (a : StoreFate) (rest : List Fate) (b : StoreFate) (more : List Fate) → Has (fate.Store a ∷ rest) → Has (fate.Store b ∷ more) → AreFaultless (fate.Store a ∷ rest) → AreFaultless (fate.Store b ∷ more)
    → fate.Store a ∷ rest ≡ fate.Store b ∷ more =
    λ a rest b more first second one other.
    (let same : b ≡ a = storing-is b other.0 ∙ sym (storing-is a one.0) in
    let left = same-fates caller brought (next a) rest more (demanded brought demand a state) first
    (subst (λ f. AreFates caller brought (next f) more (demanded brought demand f state)) same second) (demanded-certain brought demand a state one.0 certain) one.1 other.1 in
    (λ i. fate.Store (sym same i) ∷ left i)) in
    let second_of : (a : StoreFate) (rest ys : List Fate) → Has (fate.Store a ∷ rest) → Has ys → AreFaultless (fate.Store a ∷ rest) → AreFaultless ys → fate.Store a ∷ rest ≡ ys =
    λ a rest.
    elim [
      | [] ↦ λ first second one other. absurd second
      | another ∷ more ↦
          let next_is : (f : Fate) → Has (fate.Store a ∷ rest) → Has (f ∷ more) → AreFaultless (fate.Store a ∷ rest) → AreFaultless (f ∷ more) → fate.Store a ∷ rest ≡ f ∷ more =
          elim [ fate.Store b ↦ both a rest b more | fate.Read b ↦ λ first second one other. absurd second ] in
          next_is another
    ] in
    let stores : (xs ys : List Fate) → Has xs → Has ys → AreFaultless xs → AreFaultless ys → xs ≡ ys =
    elim [
      | [] ↦ λ ys first second one other. absurd first
      | some ∷ rest ↦
          let next_is : (f : Fate) (ys : List Fate) → Has (f ∷ rest) → Has ys → AreFaultless (f ∷ rest) → AreFaultless ys → f ∷ rest ≡ ys =
          elim [ fate.Store a ↦ second_of a rest | fate.Read a ↦ λ ys first second one other. absurd first ] in
          next_is some
    ] in
    let pass : (b : Bool) → by_test b (Has these) (AreNone these) → by_test b (Has those) (AreNone those) → these ≡ those =
    elim [ true ↦ λ first second. stores these those first second clean others | false ↦ λ first second. none-is these first ∙ sym (none-is those second) ] in
    pass (fits (promised caller state (next stored.Stored))) are also
same-fates caller brought (Resolves reading unread next) these those state are also certain clean others =
    let Has : List Fate → Type 0 =
    by_read ⊥ (λ ended rest. by_reading ended (AreFates caller brought unread rest (settled reading ended state)) (AreFates caller brought (next (asked caller brought (settled reading ended state))) rest (settled reading ended state))) in
    let known = known-reading reading state certain in
    same-fates caller brought (next (asked caller brought state)) these those state
    (subst (λ b. by_test b (Has these) (AreFates caller brought (next (asked caller brought state)) these state)) known are)
    (subst (λ b. by_test b (Has those) (AreFates caller brought (next (asked caller brought state)) those state)) known also) certain clean others
same-fates caller brought (Opens stem terms next) these those state are also certain clean others =
    same-fates caller brought next these those (unlocked_with brought stem terms state) are also (opened-certain brought stem terms state certain) clean others

-- those of alike requests end alike if no device fails
pub fates_alike : (state : State) (one other : Recorded) → AreAlike one.arrival other.arrival → Fits state (event.Arrive one) → Fits state (event.Arrive other)
    → IsCertain state → AreFaultless one.fates → AreFaultless other.fates → one.fates ≡ other.fates
fates_alike state one other alike fits others certain faultless faultless' =
    let conn = one.arrival.conn in
    let given = one.arrival.request.call in
    let these = moment-fates conn state given one.fates one.arrival.now other.arrival.now one.arrival.salt other.arrival.salt alike.moment fits.1.fates in
    let those : AreFates conn (brings given other.arrival.now) (plan conn state other.arrival.salt given other.arrival.now) other.fates state =
    subst (λ (c : ConnId × Result Call CallFault). AreFates c.0 (brings c.1 other.arrival.now) (plan c.0 state other.arrival.salt c.1 other.arrival.now) other.fates state)
    (λ i. (sym alike.conn i, sym alike.call i)) others.1.fates in
    same-fates conn (brings given other.arrival.now) (plan conn state other.arrival.salt given other.arrival.now) one.fates other.fates state these those certain faultless faultless'

-- and so do those of a derived key
pub key_fates : (state : State) (came : Derivation) (fates : List Fate) → Fits state (event.Derived came) → Fits state (event.Derived (record came { fates = fates }))
    → IsCertain state → AreFaultless came.fates → AreFaultless fates → came.fates ≡ fates
key_fates state came fates fits others certain faultless faultless' =
    let brought = brought_derived came in
    let its = derived came.prompt came.round (terms_of came) (asked came.conn brought state) in
    same-fates came.conn brought its came.fates fates state fits.1.fates others.1.fates certain faultless faultless'
