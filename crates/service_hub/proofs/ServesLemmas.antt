-- What became of the links, and the history that their connections have, from what the loop and the gathering say.
use Rattle.std.proofs.Common.{◌≡◌, ℕ, ◌+◌, ◌*◌, length, ap, Bool, List, [], ◌∷◌, ◌++◌, Option, None, Some, refl, sym, ◌∙◌, subst}
use Rattle.std.specs.List.{AllByRecursion, AllZip}
use Rattle.shared_service.specs.service_history.specs.History.{History}
use Rattle.shared_service.specs.service_desk.specs.Places.{Home}
use Rattle.shared_service.specs.service_desk.specs.Views.{View, IsView, state_of, count_of}
use Rattle.shared_service.specs.Passes.{Seen, IsGathered, noted}
use Rattle.shared_service.specs.shared_turn.specs.Shares.{whole, one, IsFirst}
use Rattle.shared_service.specs.Tries.{IsWhole}
use Rattle.daemon.specs.declared.accepting.LoopEnd.{LoopEnd}
use Rattle.daemon.specs.Accepts.{Accepts, Listening, Rounds}
use Rattle.service_hub.specs.Gathering.{AreGathered, all_together}
use Rattle.service_hub.specs.Lending.{of_desk, missing_in}
use Rattle.service_hub.specs.Links.{LinkJob, ServedLink, IsOf, ServesLink, ServesLinks, all_passes, desk_told, desk_seen}
use Rattle.service_hub.proofs.GatherLemmas.{gathers-none, gathers-one, gathers-more, of-home, whole-gathered}
use Rattle.service_hub.proofs.HomeLemmas.{started-all, results-home}
use Rattle.service_hub.proofs.RecordedLemmas.{IsNew, is-new, recorded-all}

-- what the loop over the links changes besides its listener, and what it depends on
pub record Given (J S : Type 0) : Type 0 where
  pub uid : ℕ
  pub guid : List ℕ
  pub seed : List ℕ
  pub view : View
  pub home : Home
  pub lent : ℕ
  pub refused : ℕ
  pub hub : Seen
  pub unjoined : ℕ
  pub started : List J
  pub done : List S

module _ {R F S T I O : Type 0} (left : I → Option (List ℕ)) (in_faults : I → ℕ) (in_steady in_closed : I → Bool) (written : O → Option (List ℕ)) (out_faults : O → ℕ) (out_steady out_closed : O → Bool) (most : Option ℕ) (jobs : List (LinkJob R F S T I O)) (unstarted_old unstarted : ℕ) (from to : Listening) (was is : ℕ) (ended : Bool) (how : LoopEnd) (done : List (ServedLink R F S I O)) where
  -- what the loop says, given these
  abbrev pub Loop : Given (LinkJob R F S T I O) (ServedLink R F S I O) → Type 0
  Loop g =
      Accepts
      (Rounds desk_told desk_seen desk_told desk_seen left in_faults in_steady in_closed written out_faults out_steady out_closed g.uid g.guid g.seed (Some g.home))
      (ServesLink left in_faults in_steady in_closed written out_faults out_steady out_closed)
      most
      (record { standing = record { view = g.view; lent = g.lent; unjoined = g.refused; started = jobs; unstarted = unstarted_old }; listening = from })
      (record { standing = record { view = g.hub.view; lent = missing_in g.hub.home.share; unjoined = g.unjoined; started = g.started; unstarted = unstarted }; listening = to })
      was is ended g.done done how

  pub serves-links : (pass : Seen) (then now : Given (LinkJob R F S T I O) (ServedLink R F S I O)) (first mid last : Seen) (service : History)
      → Loop then → then ≡ now → now.view ≡ pass.view → now.home ≡ of_desk pass.home → now.lent ≡ 1 → jobs ≡ [] → now.started ≡ [] → now.done ≡ []
      → first ≡ noted pass → now.hub.home.table ≡ first.home.table → IsFirst now.hub.home.share → IsGathered first now.hub mid → AreGathered mid (all_passes done) last
      → IsView (state_of last.view) (count_of last.view) last.view → (last.home.share ≡ whole → IsWhole last.view service)
      → ServesLinks left in_faults in_steady in_closed written out_faults out_steady out_closed now.uid now.guid now.seed most pass
      (record { standing = record { view = pass.view; lent = 1; unjoined = now.refused; started = jobs; unstarted = unstarted_old }; listening = from })
      now.unjoined unstarted to was is ended how service
  serves-links pass then now first mid last service loop same same_view same_home lent_one idle none_started none_done is_noted table is_first met more view closed =
      let at : Given (LinkJob R F S T I O) (ServedLink R F S I O) = record now { view = pass.view; home = of_desk pass.home; lent = 1; started = []; done = [] } in
      let there : then ≡ at = same ∙ (λ i. record now { view = same_view i; home = same_home i; lent = lent_one i; started = none_started i; done = none_done i }) in
      let all : Loop at = subst Loop there loop in
      let gathered : AreGathered (noted pass) (all_passes done ++ now.hub ∷ []) last =
      subst (λ (s : Seen). AreGathered s (all_passes done ++ now.hub ∷ []) last) is_noted
      (gathers-more first mid last (all_passes done) (now.hub ∷ []) (gathers-one first first mid now.hub [] (gathers-none first) table met) more) in
      let new : AllByRecursion IsNew all.last.standing.started =
      started-all desk_told desk_seen desk_told desk_seen (λ (clock : T). None) left in_faults in_steady in_closed written out_faults out_steady out_closed (Some (of_desk pass.home)) now.uid now.guid now.seed
      IsNew (λ old new job made. is-new now.uid now.guid now.seed (Some (of_desk pass.home)) old new job made) _ all.last all.rounds all.run (subst (AllByRecursion IsNew) (sym idle) tt) in
      let homes : AllByRecursion (IsOf (of_desk pass.home)) done =
      subst (AllByRecursion (IsOf (of_desk pass.home))) (sym all.appended)
      (of-home (of_desk pass.home) (of_desk pass.home) all.results
      (results-home desk_told desk_seen desk_told desk_seen (λ (clock : T). None) left in_faults in_steady in_closed written out_faults out_steady out_closed (Some (of_desk pass.home)) now.uid now.guid now.seed _ all.last all.rounds all.results all.run idle all.served) refl) in
      let lent : missing_in now.hub.home.share ≡ 1 + 2 * length done = all.lent ∙ ap (λ (l : List (ServedLink R F S I O)). 1 + 2 * length l) (sym all.appended) in
      record {
        hub = now.hub;
        results = done;
        accepts = all;
        last = last;
        gathered = gathered;
        view = view;
        recorded = recorded-all left in_faults in_steady in_closed written out_faults out_steady out_closed last all.last.standing.started done (now.hub ∷ [])
            (subst (AllZip (ServesLink left in_faults in_steady in_closed written out_faults out_steady out_closed) all.last.standing.started) (sym all.appended) all.served) new gathered.all;
        closed = closed (gathered.share ∙ whole-gathered pass.home now.hub done is_first lent homes);
      }
