-- How a service that threads share admits a connection, as a hub says it.
use Rattle.std.proofs.Common.{◌≡◌, ℕ, ◌+◌, ◌-◌, arith, Bool, [], ◌∷◌, Some, refl, sym, ◌∙◌, ap, subst, append-nil}
use Rattle.kr_base.specs.declared.ids.ConnId.{ConnId}
use Rattle.shared_service.specs.service_events.specs.declared.event.Event.TheVariants as event
use Rattle.shared_service.specs.service_events.specs.declared.event.JoinRefused.{JoinRefused}
use Rattle.shared_service.specs.service_events.specs.declared.event.JoinRefused.TheVariants as join
use Rattle.shared_service.specs.service_events.specs.declared.event.Output.TheVariants as output
use Rattle.shared_service.specs.service_events.specs.Step.{Fits, output_of}
use Rattle.shared_service.specs.service_desk.specs.Places.{Home, Extends}
use Rattle.shared_service.specs.service_desk.specs.Views.{View}
use Rattle.shared_service.specs.Passes as pass
use Rattle.shared_service.specs.shared_turn.specs.declared.share.Share.{Share}
use Rattle.shared_service.specs.shared_turn.specs.declared.share.Share.TheVariants as share
use Rattle.shared_service.specs.shared_turn.specs.Shares.{one, without, together, IsFirst}
use Rattle.daemon.specs.Hubs.{Joins, IsDeskOf, IsNotJoined, Lends, TakesBack}
use Rattle.service_hub.specs.Gathering.{AreGathered}
use Rattle.service_hub.specs.Lending.{of_desk, missing_in}
use Rattle.service_hub.proofs.GatherLemmas.{gathers-none, gathers-one}

-- an event of the pass's own is a join of the hub
pub joins : (conn : ConnId) (home : Home) (steady : Bool) (old new : View) → Extends (pass.spot conn home steady old) (pass.spot conn home steady new) (event.Connect conn) (output.Joined conn) → Joins old conn new
joins conn home steady old new e = record {
  between = e.between;
  legal = e.legal;
  fits = subst (λ s. Fits s (event.Connect conn)) e.reached e.fits;
  answers = subst (λ s. output.Joined conn ≡ output_of s (event.Connect conn)) e.reached e.answers;
  is = sym (e.views old refl);
}

-- a refusal of the service is one of the hub
pub not-joined : (home : Home) (steady : Bool) (refused : JoinRefused) (old new : View) → pass.IsRefused home steady refused old new → IsNotJoined refused old new
not-joined home steady refused old new is =
    let looks = is.0 (record { 0 = 1 }) in
    record { between = looks.between; legal = looks.legal; is = sym (looks.views old refl); cause = is.1 }

-- a refusal for lack of memory, before the service was asked
pub no-memory : (view : View) → IsNotJoined join.OutOfMemory view view
no-memory view = record {
  between = [];
  legal = tt;
  is = ap (λ s. record view { seen = s }) (sym (append-nil view.seen));
  cause = tt;
}

-- a desk with a noted pass has seen what the hub has seen, and has recorded nothing
pub is-desk : (conn other : ConnId) (seen at : pass.Seen) → conn ≡ other → at ≡ pass.noted seen
    → IsDeskOf (pass.told conn at.home at.steady at.view) (λ view. view ≡ at.view) (Some (of_desk seen.home)) other seen.view
is-desk conn other seen at same noted = record { home_is = ap (λ (s : pass.Seen). Some s.home) noted; conn_is = same; view_is = λ view is. is ∙ ap (λ (s : pass.Seen). s.view) noted }

-- the first pass stays the first one, whatever is noted or gathered
pub first-without : (number : ℕ) (s : Share) → IsFirst s → IsFirst (without number s)
first-without number (share.AllBut missing) is = tt
first-without number (share.Only few) is = absurd is

pub first-together : (s t : Share) → IsFirst s → IsFirst (together s t)
first-together (share.AllBut missing) (share.AllBut others) is = tt
first-together (share.AllBut missing) (share.Only few) is = tt
first-together (share.Only few) t is = absurd is

-- and this many passes more, or less, are missing
pub missing-without : (number : ℕ) (s : Share) → IsFirst s → missing_in (without number s) ≡ missing_in s + number
missing-without number (share.AllBut missing) is = refl
missing-without number (share.Only few) is = absurd is

pub missing-together : (s : Share) → IsFirst s → missing_in (together (together s one) one) ≡ missing_in s - 2
missing-together (share.AllBut missing) is = omega arith
missing-together (share.Only few) is = absurd is

-- the views of two desks, whose passes were gathered
pub takes-back : (old mid new reader writer : pass.Seen) → writer.home ≡ of_desk old.home → reader.home ≡ of_desk old.home → pass.IsGathered old writer mid → pass.IsGathered mid reader new
    → TakesBack (λ view. view ≡ reader.view) (λ view. view ≡ writer.view) old.view new.view
takes-back old mid new reader writer writer_home reader_home writes reads =
    let first : AreGathered old (writer ∷ []) mid = gathers-one old old mid writer [] (gathers-none old) (ap (λ (h : Home). h.table) writer_home) writes in
    let both : AreGathered old (reader ∷ writer ∷ []) new = gathers-one old mid new reader (writer ∷ []) first (ap (λ (h : Home). h.table) reader_home ∙ sym first.began.table) reads in
    record {
      reader = reader.view;
      writer = writer.view;
      reader_is = refl;
      writer_is = refl;
      over = record {
        began = record { start = both.began.start; before = both.began.before; more = both.began.begins.0; seen = both.began.begins.1 };
        all = (
          record { start = both.all.0.start; before = both.all.0.before; more = both.all.0.begins.0; seen = both.all.0.begins.1 },
          (record { start = both.all.1.0.start; before = both.all.1.0.before; more = both.all.1.0.begins.0; seen = both.all.1.0.begins.1 }, tt),
        );
        own = both.own;
      };
    }
