-- What is sent when collections are locked in byte order of their stems: the signals of those that are unlocked.
use Rattle.std.proofs.Common.{◌≡◌, ℕ, true, false, cond, List, [], ◌∷◌, ◌++◌, map, Option, Less, Equal, refl, sym, ap, subst, ◌∙◌}
use Rattle.std.specs.Cmp.Lexicographic.{slice_cmp, nat_list_cmp_total}
use Rattle.std.specs.List.{AllByRecursion}
use Rattle.std.specs.Option.{option_map_or}
use Rattle.std.specs.Ordering.{nat_cmp}
use Rattle.std.proofs.lemmas.Cmp.{tied_itself}
use Rattle.std.proofs.lemmas.Map.Keys.{sorted_head, sorted_tail}
use Rattle.kr_base.specs.declared.ids.ConnId.{ConnId}
use Rattle.stem_choice.specs.UsedStems.{AreInOrder}
use Rattle.service_events.specs.collection_table.specs.Entries.{changed}
use Rattle.service_events.specs.collection_table.specs.Rows.{CollectionRow, Rows, is_open, is_unlocked, locked}
use Rattle.service_events.specs.collection_table.proofs.EntryLemmas.{others_stay}
use Rattle.service_events.specs.secret_calls.specs.declared.signal.Signal.{Signal}
use Rattle.service_events.specs.service_prompts.specs.Announcing.{all_closing_signals, announced, closing_signals, lock_signals, to_everyone}
use Rattle.service_events.specs.Plan.{Lock_collection}
use Rattle.service_events.specs.Run.{performed, sent_all}
use Rattle.service_events.specs.service_tables.specs.State.{State}

-- stems that differ
apart : (stem other : List ℕ) → slice_cmp nat_cmp stem other ≡ Less → other ≡ stem → ⊥
apart stem other less same =
    let tied : slice_cmp nat_cmp stem stem ≡ Equal = tied_itself nat_list_cmp_total stem in
    let no : Less ≡ Equal = sym (subst (λ its. slice_cmp nat_cmp stem its ≡ Less) same less) ∙ tied in
    cc

-- once another collection is locked, this one is as it was
closing-apart : (stem : List ℕ) (others : List (List ℕ)) (rows : Rows) → AllByRecursion (λ other. slice_cmp nat_cmp stem other ≡ Less) others
    → all_closing_signals others (changed stem locked rows) ≡ all_closing_signals others rows
closing-apart stem [] rows above = refl
closing-apart stem (other ∷ others) rows above =
    let same : is_open other (changed stem locked rows) ≡ is_open other rows =
    ap (λ (o : Option CollectionRow). option_map_or is_unlocked o false) (others_stay stem other locked rows (apart stem other above.0)) in
    (λ i. cond (same i) (lock_signals other true) [] ++ closing-apart stem others rows above.1 i)

announced-append : (one more : List Signal) → announced (one ++ more) ≡ announced one ++ announced more
announced-append [] more = refl
announced-append (it ∷ one) more = ap (λ sent. to_everyone it ∷ sent) (announced-append one more)

-- what locking collections in order sends
pub locks-said : (caller : ConnId) (stems : List (List ℕ)) (state : State) → AreInOrder stems
    → sent_all caller (map Lock_collection stems) state ≡ announced (all_closing_signals stems state.collections)
locks-said caller [] state ordered = refl
locks-said caller (stem ∷ stems) state ordered =
    let next = performed caller (Lock_collection stem) state in
    let first = closing_signals stem state.collections in
    ap (λ sent. announced first ++ sent)
    (locks-said caller stems next (sorted_tail (slice_cmp nat_cmp) stem stems ordered)
    ∙ ap announced (closing-apart stem stems state.collections (sorted_head (slice_cmp nat_cmp) stem stems ordered)))
    ∙ sym (announced-append first (all_closing_signals stems state.collections))
