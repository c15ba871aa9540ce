-- Hearing goes on message by message, and piece by piece.
use Rattle.std.proofs.Common.{◌≡◌, ℕ, ◌-◌, Bool, true, false, IsTrue, List, [], ◌∷◌, ◌++◌, length, Ok, Err, refl, sym, ap, ◌∙◌, arith, append_assoc, append-nil, subst}
use Rattle.std.specs.Option.{is_some}
use Rattle.dbus_framing.specs.declared.violation.FrameRefused.{FrameRefused}
use Rattle.dbus_framing.specs.declared.violation.FrameRefused.TheVariants as frame
use Rattle.kr_dialer.specs.Carrying.{LinkState}
use Rattle.kr_dialer.proofs.CarryingLemmas.{Carried-none}
use Rattle.kr_dialer.proofs.CarriedLemmas.{carried-read, carried-still, front-all, rose-after, still-dialled}
use Rattle.bus_framing.specs.Looks.{Said}
use Rattle.bus_framing.specs.Links.{Linking, AreHeard, HearsNext, IsLinked, IsRefusal, Passes, Waits, at_start, fed_with, here, on}
use Rattle.bus_framing.specs.Links as links
use Rattle.bus_framing.proofs.LinkLemmas.{heard_on, passed_fed}
use Rattle.bus_sending.specs.Texts.{Written}
use Rattle.bus_start.specs.declared.answer.StartRefused.{StartRefused}
use Rattle.bus_start.specs.declared.answer.StartRefused.TheVariants as start
use Rattle.bus_start.specs.Starts.{Agrees, Rows, has_started, hear, opening}
use Rattle.bus_views.specs.declared.view.View.{View}
use Rattle.bus_views.specs.Views.{IsView}
use Rattle.bus_naming.specs.declared.feeding.FeedRefused.{FeedRefused}
use Rattle.bus_naming.specs.declared.feeding.FeedRefused.TheVariants as feed
use Rattle.bus_naming.specs.declared.listening.Listened.{Listened}
use Rattle.bus_naming.specs.declared.naming.Named.{Named}
use Rattle.bus_naming.specs.declared.refused.NamingRefused.{NamingRefused}
use Rattle.bus_naming.specs.declared.refused.NamingRefused.TheVariants as end
use Rattle.bus_naming.specs.Feeding.{FeedsMore}
use Rattle.bus_naming.specs.Naming.{Asks, EndsFor, HasHeard, Hears, HearsAll, HearsOne, IsOpen, IsRefusedBy, Listens, ListensSoFar, Names, end_for, end_of, fault_of, first_calls, link_at, next, none}

-- ---- what is heard

-- messages that aren't heard, after others
passes-trans : (a b c : Linking) → Passes a b → Passes b c → Passes a c
passes-trans a b c p here = p
passes-trans a b c p (on mid size before looked) = on mid size (passes-trans a b mid p before) looked

-- more bytes come to a link of which none was consumed
fed-at : (bytes piece : List ℕ) → fed_with piece (link_at bytes) ≡ link_at (bytes ++ piece)
fed-at bytes piece = let debt : 0 - length piece ≡ 0 = omega arith in ap (λ (n : ℕ). record { left = bytes ++ piece; debt = n }) debt

link_at-linked : (bytes : List ℕ) → IsLinked (link_at bytes)
link_at-linked bytes = λ owes. absurd (owes refl)

-- nothing was heard
pub heard-none : (rest : List ℕ) (framing : Linking) (rows : Rows View) → framing ≡ fed_with rest at_start → rows ≡ opening → HasHeard rest framing rows
heard-none rest framing rows fed new =
    let is : framing ≡ link_at rest = fed ∙ fed-at [] rest in
    let first : HasHeard rest (link_at rest) opening = record { saids = []; last = link_at rest; heard = links.none (link_at rest) here; passed = here; as_rows = none } in
    subst (λ (r : Rows View). HasHeard rest framing r) (sym new) (subst (λ (l : Linking). HasHeard rest l opening) (sym is) first)

-- more bytes come
pub heard-more : (bytes piece : List ℕ) (framing : Linking) (rows : Rows View) → HasHeard bytes framing rows → HasHeard (bytes ++ piece) (fed_with piece framing) rows
heard-more bytes piece framing rows so =
    let it = heard_on piece (link_at bytes) so.saids so.last (link_at-linked bytes) so.heard in
    record {
      saids = so.saids;
      last = fed_with piece so.last;
      heard = subst (λ (from : Linking). AreHeard from so.saids (fed_with piece so.last)) (fed-at bytes piece) it.heard;
      passed = (passed_fed piece so.last framing it.linked so.passed).passed;
      as_rows = so.as_rows;
    }

-- one more message
pub heard-next : (bytes : List ℕ) (from to : Linking) (said : Said) (rows new : Rows View) → HasHeard bytes from rows → has_started rows ≡ false → HearsNext from said to
    → Hears said rows (Ok new) → HasHeard bytes to new
heard-next bytes from to said rows new so not it hears =
    let behind : HearsNext so.last said to = record { mid = it.mid; size = it.size; passed = passes-trans so.last from it.mid so.passed it.passed; heard = it.heard; behind = it.behind } in
    record {
      saids = so.saids ++ said ∷ [];
      last = to;
      heard = links.next so.last to so.saids said so.heard behind;
      passed = here;
      as_rows = next so.saids said rows new so.as_rows not hears;
    }

-- messages that aren't heard
pub heard-passed : (bytes : List ℕ) (from to : Linking) (rows : Rows View) → HasHeard bytes from rows → Passes from to → HasHeard bytes to rows
heard-passed bytes from to rows so passed = record {
  saids = so.saids;
  last = so.last;
  heard = so.heard;
  passed = passes-trans so.last from to so.passed passed;
  as_rows = so.as_rows;
}

-- a message that refuses, or for which there is no memory
pub hears-refused : (said : Said) (view : View) (old new : Rows View) (why : StartRefused) → IsView said view → Agrees why (hear view.answer view view.size old)
    → HearsOne said old new (Err (end_of why))
hears-refused said view old new (start.Refused question) is agrees = record { view = view; is = is; heard = agrees }
hears-refused said view old new start.NameTaken is agrees = record { view = view; is = is; heard = agrees }
hears-refused said view old new start.Early is agrees = record { view = view; is = is; heard = agrees }
hears-refused said view old new start.OutOfMemory is agrees = tt

-- ---- all complete messages

pub all-started : (bytes : List ℕ) (framing : Linking) (rows : Rows View) → HasHeard bytes framing rows → true ≡ has_started rows → HearsAll bytes framing rows (Ok tt)
all-started bytes framing rows so is = (so, λ not. absurd (let e : true ≡ false = is ∙ not in cc))

pub all-waits : (bytes : List ℕ) (from to : Linking) (rows : Rows View) → HasHeard bytes from rows → Waits from to → HearsAll bytes to rows (Ok tt)
all-waits bytes from to rows so it = (heard-passed bytes from to rows so it.passed, λ not. it.awaits)

pub all-broken : (bytes : List ℕ) (from to : Linking) (rows : Rows View) (refused : FrameRefused) → HasHeard bytes from rows → has_started rows ≡ false → IsRefusal from refused to
    → EndsFor bytes (end_for refused)
all-broken bytes from to rows (frame.Violation cause) so not it =
    record { from = from; rows = rows; heard = so; not_started = not; to = to; passed = it.0; breaks_there = it.1 }
all-broken bytes from to rows frame.OutOfMemory so not it = tt

-- a message refuses
refuses-with : (bytes : List ℕ) (from to : Linking) (said : Said) (rows : Rows View) (why : StartRefused) → HasHeard bytes from rows → has_started rows ≡ false → HearsNext from said to
    → Hears said rows (Err why) → IsRefusedBy bytes why
refuses-with bytes from to said rows why so not it hears =
    record { from = from; rows = rows; heard = so; not_started = not; said = said; to = to; follows = it; refuses = hears }

pub all-refused : (bytes : List ℕ) (from to : Linking) (said : Said) (rows new : Rows View) (why : NamingRefused) → HasHeard bytes from rows → has_started rows ≡ false
    → HearsNext from said to → HearsOne said rows new (Err why) → EndsFor bytes why
all-refused bytes from to said rows new (end.Refused question) so not it hears = refuses-with bytes from to said rows (start.Refused question) so not it hears
all-refused bytes from to said rows new end.NameTaken so not it hears = refuses-with bytes from to said rows start.NameTaken so not it hears
all-refused bytes from to said rows new end.Early so not it hears = refuses-with bytes from to said rows start.Early so not it hears
all-refused bytes from to said rows new end.OutOfMemory so not it hears = tt
all-refused bytes from to said rows new _ so not it hears = absurd hears

-- ---- reading on

pub so-none : (rest : List ℕ) (old : LinkState) (framing : Linking) (rows : Rows View) → framing ≡ fed_with rest at_start → rows ≡ opening → ListensSoFar rest old old framing rows
so-none rest old framing rows fed new = record {
  read = [];
  carried = Carried-none old;
  still = refl;
  heard = subst (λ (l : List ℕ). HasHeard l framing rows) (sym (append-nil rest)) (heard-none rest framing rows fed new);
}

pub so-more : (rest : List ℕ) (old mid new : LinkState) (was from to : Linking) (before rows : Rows View) (more : Bool) → (so : ListensSoFar rest old mid was before)
    → HearsAll (rest ++ so.read) from rows (Ok tt) → more ≡ true → FeedsMore from to mid new (Ok more) → ListensSoFar rest old new to rows
so-more rest old mid new was from to before rows more so all some got =
    let fed : FeedsMore from to mid new (Ok true) = subst (λ (b : Bool). FeedsMore from to mid new (Ok b)) some got in
    let heard : HasHeard ((rest ++ so.read) ++ fed.0) (fed_with fed.0 from) rows = heard-more (rest ++ so.read) fed.0 from rows all.0 in
    record {
      read = so.read ++ fed.0;
      carried = carried-read old mid new so.read fed.0 [] so.carried fed.1;
      still = fed.3 ∙ so.still;
      heard = subst (λ (l : Linking). HasHeard (rest ++ (so.read ++ fed.0)) l rows) (sym fed.2)
          (subst (λ (l : List ℕ). HasHeard l (fed_with fed.0 from) rows) (append_assoc rest so.read fed.0) heard);
    }

-- there was no memory for what was read before
pub no-room : (rest : List ℕ) (old : LinkState) → Listens rest old old (Err end.OutOfMemory)
no-room rest old = record { read = []; carried = Carried-none old; ends = (tt, refl) }

-- a message ended it
pub so-ends : (rest : List ℕ) (old now : LinkState) (was : Linking) (rows : Rows View) (why : NamingRefused) → (so : ListensSoFar rest old now was rows) → EndsFor (rest ++ so.read) why
    → Listens rest old now (Err why)
so-ends rest old now was rows (end.Refused question) so it = record { read = so.read; carried = so.carried; ends = (it, so.still) }
so-ends rest old now was rows end.NameTaken so it = record { read = so.read; carried = so.carried; ends = (it, so.still) }
so-ends rest old now was rows end.Early so it = record { read = so.read; carried = so.carried; ends = (it, so.still) }
so-ends rest old now was rows (end.Violation cause) so it = record { read = so.read; carried = so.carried; ends = (it, so.still) }
so-ends rest old now was rows end.OutOfMemory so it = record { read = so.read; carried = so.carried; ends = (it, so.still) }
so-ends rest old now was rows end.EndedEarly so it = absurd it
so-ends rest old now was rows end.ReadFault so it = absurd it
so-ends rest old now was rows end.WriteFault so it = absurd it

-- the link has started
pub so-started : (rest : List ℕ) (old now : LinkState) (was : Linking) (before rows : Rows View) (it : Listened) → (so : ListensSoFar rest old now was before)
    → HearsAll (rest ++ so.read) it.framer rows (Ok tt) → IsTrue (has_started rows) → it.kept.items ≡ rows.kept → Listens rest old now (Ok it)
so-started rest old now was before rows it so all started kept = record { read = so.read; carried = so.carried; ends = ((rows, all.0, started, kept), so.still) }

-- a call is still open
is-open : (bytes : List ℕ) (framing : Linking) (rows : Rows View) → HearsAll bytes framing rows (Ok tt) → has_started rows ≡ false → IsOpen bytes
is-open bytes framing rows all not = record { framing = framing; rows = rows; heard = all.0; not_started = not; awaits = all.1 not }

-- the input has ended
pub so-early : (rest : List ℕ) (old mid new : LinkState) (was from to : Linking) (before rows : Rows View) (more : Bool) → (so : ListensSoFar rest old mid was before)
    → HearsAll (rest ++ so.read) from rows (Ok tt) → has_started rows ≡ false → more ≡ false → FeedsMore from to mid new (Ok more) → Listens rest old new (Err end.EndedEarly)
so-early rest old mid new was from to before rows more so all not ended got =
    let fed : FeedsMore from to mid new (Ok false) = subst (λ (b : Bool). FeedsMore from to mid new (Ok b)) ended got in
    record {
      read = so.read;
      carried = carried-still old mid new so.read [] so.carried fed.0;
      ends = (is-open (rest ++ so.read) from rows all not, fed.2, fed.3 ∙ so.still);
    }

-- no more was fed: the link failed, or there was no memory
pub so-unfed : (rest : List ℕ) (old mid new : LinkState) (was from to : Linking) (before rows : Rows View) (why : FeedRefused) → (so : ListensSoFar rest old mid was before)
    → HearsAll (rest ++ so.read) from rows (Ok tt) → has_started rows ≡ false → FeedsMore from to mid new (Err why) → Listens rest old new (Err (fault_of why))
so-unfed rest old mid new was from to before rows feed.Failed so all not fed = record {
  read = so.read;
  carried = carried-still old mid new so.read [] so.carried fed.0;
  ends = (is-open (rest ++ so.read) from rows all not, rose-after old.faults mid.faults new.faults so.still fed.2);
}
so-unfed rest old mid new was from to before rows feed.OutOfMemory so all not fed = record {
  read = so.read ++ fed.0;
  carried = carried-read old mid new so.read fed.0 [] so.carried fed.1;
  ends = (tt, fed.2 ∙ so.still);
}

-- the link stays
pub so-dialled : (rest : List ℕ) (old now : LinkState) (framing : Linking) (rows : Rows View) → ListensSoFar rest old now framing rows → IsTrue (is_some old.dialled) → IsTrue (is_some now.dialled)
so-dialled rest old now framing rows so is = still-dialled old.dialled now.dialled so.carried.dialled is

-- ---- the whole

-- the three calls weren't written
pub unasked : (rest : List ℕ) (old new : LinkState) (why : NamingRefused) → Asks old new (Err why) → Names rest old new (Err why)
unasked rest old new end.WriteFault it = record { read = []; wrote = it.0; carried = it.2; ends = (it.1, it.3) }
unasked rest old new end.OutOfMemory it = record { read = []; wrote = []; carried = it.0; ends = ((first_calls, refl), it.1) }
unasked rest old new _ it = absurd it

-- there was no memory to read
pub unread : (rest : List ℕ) (old new : LinkState) (text : Written) → Asks old new (Ok text) → Names rest old new (Err end.OutOfMemory)
unread rest old new text it = record { read = []; wrote = first_calls; carried = it.0; ends = (front-all first_calls, it.1) }

-- the link owns the name
pub named : (rest : List ℕ) (old mid new : LinkState) (it : Named) (heard : Listened) → Asks old mid (Ok it.text) → Listens rest mid new (Ok heard) → it.framer ≡ heard.framer
    → it.kept.items ≡ heard.kept.items → Names rest old new (Ok it)
named rest old mid new it heard asked listens framer kept =
    let found = listens.ends.0 in
    record {
      read = listens.read;
      wrote = first_calls;
      carried = carried-read old mid new [] listens.read first_calls asked.0 listens.carried;
      ends = (refl, listens.ends.1 ∙ asked.1, asked.2, (found.0, subst (λ (l : Linking). HasHeard (rest ++ listens.read) l found.0) (sym framer) found.1, found.2, kept ∙ found.3));
    }

-- it doesn't
pub unnamed : (rest : List ℕ) (old mid new : LinkState) (text : Written) (why : NamingRefused) → Asks old mid (Ok text) → Listens rest mid new (Err why) → Names rest old new (Err why)
unnamed rest old mid new text (end.Refused question) asked it = record {
  read = it.read;
  wrote = first_calls;
  carried = carried-read old mid new [] it.read first_calls asked.0 it.carried;
  ends = (refl, it.ends.0, it.ends.1 ∙ asked.1);
}
unnamed rest old mid new text end.NameTaken asked it = record {
  read = it.read;
  wrote = first_calls;
  carried = carried-read old mid new [] it.read first_calls asked.0 it.carried;
  ends = (refl, it.ends.0, it.ends.1 ∙ asked.1);
}
unnamed rest old mid new text end.Early asked it = record {
  read = it.read;
  wrote = first_calls;
  carried = carried-read old mid new [] it.read first_calls asked.0 it.carried;
  ends = (refl, it.ends.0, it.ends.1 ∙ asked.1);
}
unnamed rest old mid new text (end.Violation cause) asked it = record {
  read = it.read;
  wrote = first_calls;
  carried = carried-read old mid new [] it.read first_calls asked.0 it.carried;
  ends = (refl, it.ends.0, it.ends.1 ∙ asked.1);
}
unnamed rest old mid new text end.OutOfMemory asked it = record {
  read = it.read;
  wrote = first_calls;
  carried = carried-read old mid new [] it.read first_calls asked.0 it.carried;
  ends = (front-all first_calls, it.ends.1 ∙ asked.1);
}
unnamed rest old mid new text end.EndedEarly asked it = record {
  read = it.read;
  wrote = first_calls;
  carried = carried-read old mid new [] it.read first_calls asked.0 it.carried;
  ends = (refl, it.ends.0, it.ends.1, it.ends.2 ∙ asked.1);
}
unnamed rest old mid new text end.ReadFault asked it = record {
  read = it.read;
  wrote = first_calls;
  carried = carried-read old mid new [] it.read first_calls asked.0 it.carried;
  ends = (refl, it.ends.0, rose-after old.faults mid.faults new.faults asked.1 it.ends.1);
}
unnamed rest old mid new text end.WriteFault asked it = absurd it.ends.0
