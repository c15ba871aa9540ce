-- What the desks of all connections recorded is in the history that the last pass has seen.
use Rattle.std.proofs.Common.{◌≡◌, ℕ, inl, inr, Bool, List, [], ◌∷◌, ◌++◌, Option, None, Result, Ok, Err, refl, sym, ap, ◌∙◌, subst}
use Rattle.std.specs.List.{AllByRecursion, AllZip}
use Rattle.dbus_framing.specs.Framers.{Framing}
use Rattle.shared_service.specs.service_tables.specs.State.{State}
use Rattle.shared_service.specs.service_desk.specs.Calls.{Goes}
use Rattle.shared_service.specs.service_desk.specs.Places.{Home, Place, place}
use Rattle.shared_service.specs.service_desk.specs.Records as records
use Rattle.shared_service.specs.service_desk.specs.Records.{Records, with_seen}
use Rattle.shared_service.specs.service_desk.specs.Views.{View}
use Rattle.shared_service.specs.service_desk.proofs.RecordLemmas.{extends-records, looks-records}
use Rattle.shared_service.specs.declared.desk.SharedDesk.{SharedDesk}
use Rattle.shared_service.specs.Passes.{Seen}
use Rattle.daemon.specs.connection_worker.specs.declared.ending.End.{End}
use Rattle.daemon.specs.connection_worker.specs.Handshakes.{Both}
use Rattle.daemon.specs.connection_worker.specs.Sides.{own_in}
use Rattle.daemon.specs.Accepts.{IsJobOf}
use Rattle.daemon.specs.Jobs.{Follows}
use Rattle.service_hub.specs.Gathering.{IsBeginning}
use Rattle.service_hub.specs.Links.{ServedLink, LinkJob, ServesLink, IsRecorded, all_passes, desk_told, desk_seen, gone_seen, read_seen, write_seen}
use Rattle.service_hub.specs.Places.{AreAt}
use Rattle.service_hub.proofs.PlaceLemmas.{all-more, seen-at}

-- what a desk recorded when its connection was gone, or found so
goes-records : (old new : Place) (goes : Goes old new) → Records old new (gone_seen old new goes)
goes-records old new (inl recorded) = extends-records old new _ _ recorded
goes-records old new (inr none) = looks-records old new none.0

-- what is at its place in what a pass has seen is there in what the last one has seen
in-last : (pass last : Seen) (places : List ℕ) (owned : List records.Seen) → IsBeginning pass last → AreAt pass.view.start pass.view.seen places owned → AreAt last.view.start last.view.seen places owned
in-last pass last places owned began are =
    subst (λ (s : State). AreAt s last.view.seen places owned) (sym began.start)
    (subst (λ log. AreAt pass.view.start log places owned) (sym began.begins.1) (all-more pass.view.start pass.view.seen began.begins.0 places owned are))

module _ {R F S : Type 0} where
  -- the events of a new desk's own are at its places
  desk-at : (old new : SharedDesk R F S) (seen : List records.Seen) → Records (place desk_told desk_seen old) (place desk_told desk_seen new) seen → old.pass.view.own ≡ []
      → AreAt new.pass.view.start new.pass.view.seen new.pass.view.own (own_in seen)
  desk-at old new seen recorded none =
      let is : with_seen seen old.pass.view ≡ new.pass.view = recorded.views old.pass.view refl in
      subst (λ (v : View). AreAt v.start v.seen v.own (own_in seen)) is
      (seen-at seen old.pass.view [] (subst (λ (own : List ℕ). AreAt old.pass.view.start old.pass.view.seen own []) (sym none) tt) recorded.answered)

  -- a desk that did nothing has none
  none-at : (desk : SharedDesk R F S) → desk.pass.view.own ≡ [] → AreAt desk.pass.view.start desk.pass.view.seen desk.pass.view.own []
  none-at desk none = subst (λ (own : List ℕ). AreAt desk.pass.view.start desk.pass.view.seen own []) (sym none) tt

module _ {R F S T I O : Type 0} where
  -- the desks of a job have recorded nothing yet
  abbrev pub IsNew : LinkJob R F S T I O → Type 0
  IsNew job = (job.reader.pass.view.own ≡ []) × (job.writer.pass.view.own ≡ [])

  pub is-new : (uid : ℕ) (guid seed : List ℕ) (home : Option Home) (old new : View) (job : LinkJob R F S T I O) → IsJobOf desk_told desk_seen desk_told desk_seen uid guid seed home job old new → IsNew job
  is-new uid guid seed home old new job made = (
    ap (λ (v : View). v.own) (made.reader.view_is job.reader.pass.view refl),
    ap (λ (v : View). v.own) (made.writer.view_is job.writer.pass.view refl),
  )

module _ {R F S T I O : Type 0} (left : I → Option (List ℕ)) (in_faults : I → ℕ) (in_steady in_closed : I → Bool) (written : O → Option (List ℕ)) (out_faults : O → ℕ) (out_steady out_closed : O → Bool) where
  reader-at : (job : LinkJob R F S T I O) (streams ends : Both) (served : ServedLink R F S I O) (outcome : Result Framing End)
      → (follows : Follows desk_told desk_seen desk_told desk_seen (λ clock. None) left in_faults in_steady in_closed written out_faults out_steady out_closed job streams ends served outcome) → IsNew job
      → AreAt served.reader.pass.view.start served.reader.pass.view.seen served.reader.pass.view.own (own_in (read_seen left in_faults in_steady in_closed written out_faults out_steady out_closed job streams ends served outcome follows))
  reader-at job streams ends served (Ok has) both new = desk-at job.reader served.reader _ both.reader.recorded new.0
  reader-at job streams ends served (Err how) turned new = none-at served.reader (ap (λ (d : SharedDesk R F S). d.pass.view.own) turned.reader ∙ new.0)

  writer-at : (job : LinkJob R F S T I O) (streams ends : Both) (served : ServedLink R F S I O) (outcome : Result Framing End)
      → (follows : Follows desk_told desk_seen desk_told desk_seen (λ clock. None) left in_faults in_steady in_closed written out_faults out_steady out_closed job streams ends served outcome) → IsNew job
      → AreAt served.writer.pass.view.start served.writer.pass.view.seen served.writer.pass.view.own (own_in (write_seen left in_faults in_steady in_closed written out_faults out_steady out_closed job streams ends served outcome follows))
  writer-at job streams ends served (Ok has) both new = desk-at job.writer served.writer _ both.writer.recorded new.1
  writer-at job streams ends served (Err how) turned new = desk-at job.writer served.writer _ (goes-records _ _ turned.gone) new.1

  -- what each job recorded is in the history
  pub recorded-all : (last : Seen) (jobs : List (LinkJob R F S T I O)) (results : List (ServedLink R F S I O)) (rest : List Seen)
      → AllZip (ServesLink left in_faults in_steady in_closed written out_faults out_steady out_closed) jobs results → AllByRecursion IsNew jobs
      → AllByRecursion (λ pass. IsBeginning pass last) (all_passes results ++ rest)
      → AllZip (IsRecorded left in_faults in_steady in_closed written out_faults out_steady out_closed last.view.start last.view.seen) jobs results
  recorded-all last [] [] rest all new began = tt
  recorded-all last [] (s ∷ ss) rest all new began = elim all [ ]
  recorded-all last (j ∷ js) [] rest all new began = elim all [ ]
  recorded-all last (j ∷ js) (s ∷ ss) rest all new began = (
    record {
      serves = all.0;
      reader = in-last s.reader.pass last _ _ began.0 (reader-at j all.0.streams all.0.ends s all.0.outcome all.0.follows new.0);
      writer = in-last s.writer.pass last _ _ began.1.0 (writer-at j all.0.streams all.0.ends s all.0.outcome all.0.follows new.0);
    },
    recorded-all last js ss rest all.1 new.1 began.1.1,
  )
