-- Calls are served, and more bytes are read, turn after turn.
use Rattle.std.proofs.Common.{◌≡◌, ℕ, inl, inr, false, List, [], ◌++◌, Ok, Err, refl, sym, ◌∙◌, arith, subst, append_assoc, append-nil, ◌==◌}
use Rattle.std.proofs.lemmas.List.{map-append}
use Rattle.std.proofs.lemmas.List.Elements.{filter-append}
use Rattle.dbus_framing.specs.declared.violation.Violation.{Violation}
use Rattle.dbus_framing.specs.declared.violation.Violation.TheVariants as violation
use Rattle.dbus_framing.specs.Framers.{Framing}
use Rattle.dbus_framing.specs.Messages.{Parts}
use Rattle.dbus_framing.specs.Streams.{Stream, Breaks, BreaksNone}
use Rattle.dbus_auth.specs.Handshake.{Run, silent, opened}
use Rattle.dbus_framing.proofs.Ends.{never_ends}
use Rattle.dbus_framing.proofs.Cuts.{cut_then, cut_more, stream_then}
use Rattle.connection_worker.specs.declared.ending.End.{End}
use Rattle.connection_worker.specs.declared.ending.End.TheVariants as end
use Rattle.connection_worker.specs.Arrivals.{calls_in, AllRequests, FirstRequests}
use Rattle.connection_worker.specs.Streams.{Input, Output, Took, IsStill, Gave}
use Rattle.kr_base.specs.declared.ids.ConnId.{ConnId}
use Rattle.service_desk.specs.service_tables.specs.State.{State}
use Rattle.service_desk.specs.service_events.specs.Single.{AllFinished, AreFinished, TimedRequest, requests_of, turns}
use Rattle.connection_worker.specs.Written.{written_after}
use Rattle.connection_worker.specs.Serving.{World, IsOwed, EndsEarly}
use Rattle.connection_worker.specs.Answering.{IsEarly, MayRefuse, ServedPrefix, AnswersEarly, AnswersAll}
use Rattle.connection_worker.specs.ServingOn.{FeedsMore, ServesOn, ServedSoFar, IsThrough}
use Rattle.connection_worker.specs.Causes.{AllServed, FirstServed, IsViolated, HasCause, HasFinished, HasWritten, HasRefused}
use Rattle.connection_worker.specs.Handshakes.{most_bytes}
use Rattle.connection_worker.proofs.AnswerLemmas.{due-idle}
use Rattle.connection_worker.proofs.FitLemmas.{fit-first}
use Rattle.connection_worker.proofs.HandshakeLemmas.{rose-later}
use Rattle.connection_worker.proofs.MessageLemmas.{answered-more, broke-more, are-append, first-so, first-fewer, going-none}
use Rattle.connection_worker.proofs.RecordLemmas.{all-finished}
use Rattle.connection_worker.proofs.StreamLemmas.{Took-none, Took-trans, GaveFront-whole}

-- two stretches of messages, one after the other
going-then : (most : ℕ) (bytes rest left : List ℕ) (old mid new : World) (serials next behind : ℕ) (from o to : Output) → ServedPrefix most bytes rest old mid serials next from o
    → ServedPrefix most rest left mid new next behind o to → ServedPrefix most bytes left old new serials behind from to
going-then most bytes rest left old mid new serials next behind from o to p q = record {
  asked = p.asked ++ q.asked;
  messages = p.messages ++ q.messages;
  cut = cut_then most bytes rest left p.messages q.messages p.cut q.cut;
  are =
      rw (filter-append (λ (x : Parts). x.kind == 1) p.messages q.messages, map-append (λ (b : TimedRequest). b.request) p.asked q.asked)
      (are-append (calls_in p.messages) (requests_of p.asked) (calls_in q.messages) (requests_of q.asked) p.are q.are);
  answered = answered-more old mid new serials next behind from o to p.asked q.asked p.answered q.answered;
}

pub amid-none : (has : Framing) (from : Input) (w : World) (sink : Output) → IsOwed w.told [] → ServedSoFar has from from has w w 0 sink sink
amid-none has from w sink idle = record {
  read = [];
  took = Took-none from;
  still = refl;
  most = refl;
  going = let e : has.rest ++ [] ≡ has.rest = append-nil has.rest in rw e (going-none has.most has.rest w 0 sink idle);
}

-- the complete messages were served
pub through : (has : Framing) (from now : Input) (left more : Framing) (old mid new : World) (next behind : ℕ) (sink o to : Output) → ServedSoFar has from now left old mid next sink o
    → (going : ServedPrefix left.most left.rest more.rest mid new next behind o to) → Stream left.most left.rest going.messages more.rest → more.most ≡ left.most
    → IsThrough has from now more old new behind sink to
unfolding going-then
through has from now left more old mid new next behind sink o to so going stream most =
    let g : ServedPrefix has.most left.rest more.rest mid new next behind o to = record {
      asked = going.asked;
      messages = going.messages;
      cut = rw (sym so.most) going.cut;
      are = going.are;
      answered = going.answered;
    } in
    record {
      so_far = record {
        read = so.read;
        took = so.took;
        still = so.still;
        most = most ∙ so.most;
        going = going-then has.most (has.rest ++ so.read) left.rest more.rest old mid new 0 next behind sink o to so.going g;
      };
      stream = stream_then has.most (has.rest ++ so.read) left.rest more.rest so.going.messages going.messages so.going.cut (rw (sym so.most) stream);
    }

-- more bytes were read
pub amid-more : (has : Framing) (from now later : Input) (left fed : Framing) (old new : World) (behind : ℕ) (sink o : Output) → IsThrough has from now left old new behind sink o
    → FeedsMore left fed now later (Ok tt) → ServedSoFar has from later fed old new behind sink o
amid-more has from now later left fed old new behind sink o so more =
    let was = so.so_far in
    let bytes : has.rest ++ (was.read ++ more.0) ≡ (has.rest ++ was.read) ++ more.0 = sym (append_assoc has.rest was.read more.0) in
    record {
      read = was.read ++ more.0;
      took = Took-trans from now later was.read more.0 was.took more.1;
      still = more.4 ∙ was.still;
      most = more.3 ∙ was.most;
      going = rw (bytes, more.2) (record {
        asked = was.going.asked;
        messages = was.going.messages;
        cut = cut_more has.most (has.rest ++ was.read) more.0 left.rest was.going.messages was.going.cut;
        are = was.going.are;
        answered = was.going.answered;
      });
    }

-- ---- what is complete

-- all complete requests were recorded
all-so : (has : Framing) (from now : Input) (left : Framing) (old new : World) (behind : ℕ) (sink o : Output) → (so : IsThrough has from now left old new behind sink o)
    → AllRequests has.most (has.rest ++ so.so_far.read) (requests_of so.so_far.going.asked) left.rest
all-so has from now left old new behind sink o so = record { messages = so.so_far.going.messages; stream = so.stream; are = so.so_far.going.are }

-- all that they gave was written
gave-so : (has : Framing) (from now : Input) (left : Framing) (old new : World) (behind : ℕ) (sink o : Output) → (so : ServedSoFar has from now left old new behind sink o)
    → Gave sink o (written_after old.told.conn 0 old.told.state (turns old.told.conn old.told.state so.going.asked))
gave-so has from now left old new behind sink o so = (so.going.answered.wrote 0 refl).0

-- the first requests of all the bytes
first-then : (has : Framing) (from now : Input) (left : Framing) (old mid : World) (next : ℕ) (sink o : Output) → (so : ServedSoFar has from now left old mid next sink o) → (asked : List TimedRequest)
    → FirstRequests left.most left.rest (requests_of asked) → FirstRequests has.most (has.rest ++ so.read) (requests_of (so.going.asked ++ asked))
first-then has from now left old mid next sink o so asked first = record {
  messages = so.going.messages ++ first.messages;
  rest = first.rest;
  cut = cut_then has.most (has.rest ++ so.read) left.rest first.rest so.going.messages first.messages so.going.cut (rw (sym so.most) first.cut);
  more = first.more;
  are =
      rw (
        filter-append (λ (x : Parts). x.kind == 1) so.going.messages first.messages,
        map-append (λ (b : TimedRequest). b.request) so.going.asked asked,
        append_assoc (requests_of so.going.asked) (requests_of asked) first.more,
      )
      (are-append (calls_in so.going.messages) (requests_of so.going.asked) (calls_in first.messages) (requests_of asked ++ first.more) so.going.are first.are);
}

-- ---- the ends, by the bytes after the handshake

-- all complete requests were recorded
all-served : (has : Framing) (from now : Input) (left : Framing) (old new : World) (behind : ℕ) (sink o : Output) → has.most ≡ most_bytes
    → (so : IsThrough has from now left old new behind sink o) → AllServed (silent (opened (has.rest ++ so.so_far.read))) so.so_far.going.asked left.rest
all-served has from now left old new behind sink o most so = record {
  behind = has.rest ++ so.so_far.read;
  opened = refl;
  all = subst (λ m. AllRequests m (has.rest ++ so.so_far.read) (requests_of so.so_far.going.asked) left.rest) most (all-so has from now left old new behind sink o so);
}

-- the first of them were
first-served : (has : Framing) (bytes : List ℕ) (asked : List TimedRequest) → has.most ≡ most_bytes → FirstRequests has.most bytes (requests_of asked) → FirstServed (silent (opened bytes)) asked
first-served has bytes asked most first = inr (bytes, refl, subst (λ m. FirstRequests m bytes (requests_of asked)) most first)

-- no request was refused
none-refused : (run : Run) (asked : List TimedRequest) → FirstServed run asked → HasRefused end.Memory run asked [] []
none-refused run asked first = let e : asked ++ [] ≡ asked = append-nil asked in (omega arith, rw e first)

-- why an early end comes, and what was written by then
early-ends : (why : End) (has : Framing) (bytes : List ℕ) (asked : List TimedRequest) (text : List ℕ) (count : ℕ) (from to : Input) (sink after : Output) → has.most ≡ most_bytes → IsStill from to
    → FirstRequests has.most bytes (requests_of asked) → EndsEarly why count sink after text → HasCause why (silent (opened bytes)) asked count from to sink after × HasWritten why sink after text
early-ends end.EventsSpent has bytes asked text count from to sink after most same first ends = ((ends.0, first-served has bytes asked most first, same), ends.1)
early-ends end.WriteFault has bytes asked text count from to sink after most same first ends = ((ends.0, first-served has bytes asked most first, same), ends.1)
early-ends end.Overrun has bytes asked text count from to sink after most same first ends = ((first-served has bytes asked most first, same), ends)
early-ends end.Memory has bytes asked text count from to sink after most same first ends = ((first-served has bytes asked most first, same), ends)
early-ends _ has bytes asked text count from to sink after most same first ends = absurd ends

-- the request that was refused is the next one
early-refused : (why : End) (has : Framing) (bytes : List ℕ) (asked refused : List TimedRequest) (late : List ℕ) → has.most ≡ most_bytes → IsEarly why → MayRefuse why refused late
    → FirstRequests has.most bytes (requests_of (asked ++ refused)) → HasRefused why (silent (opened bytes)) asked refused late
early-refused end.EventsSpent has bytes asked refused late most early few first = (few, first-served has bytes (asked ++ refused) most first)
early-refused end.WriteFault has bytes asked refused late most early few first = few
early-refused end.Overrun has bytes asked refused late most early few first = few
early-refused end.Memory has bytes asked refused late most early few first = (few, first-served has bytes (asked ++ refused) most first)
early-refused _ has bytes asked refused late most early few first = absurd early

-- only the last request may lack its key then
early-finished : (why : End) (conn : ConnId) (state : State) (asked refused : List TimedRequest) → IsEarly why → AreFinished conn state (asked ++ refused) → HasFinished why conn state asked refused
early-finished end.EventsSpent conn state asked refused early are = are
early-finished end.WriteFault conn state asked refused early are = are
early-finished end.Overrun conn state asked refused early are = are
early-finished end.Memory conn state asked refused early are = are
early-finished _ conn state asked refused early are = absurd early

-- and each has it if none was refused
memory-finished : (conn : ConnId) (state : State) (asked : List TimedRequest) → AllFinished conn state asked → HasFinished end.Memory conn state asked []
memory-finished conn state asked all = let e : asked ++ [] ≡ asked = append-nil asked in rw e (all-finished conn state asked all)

broke-end : (has : Framing) (from now : Input) (left : Framing) (old mid new : World) (next : ℕ) (sink o to : Output) (why : End) → has.most ≡ most_bytes
    → ServedSoFar has from now left old mid next sink o → AnswersEarly left mid new next o to why → ServesOn has from now old new sink to why
unfolding broke-more
broke-end has from now left old mid new next sink o to why most so early =
    let all = so.going.asked ++ early.0 in
    let refused = early.1.refused in
    let bytes = has.rest ++ so.read in
    let broke = broke-more old mid new 0 next sink o to so.going.asked early.0 why so.going.answered early.1 in
    let next_so : FirstRequests has.most bytes (requests_of (all ++ refused)) =
    rw (append_assoc so.going.asked early.0 refused) (first-then has from now left old mid next sink o so (early.0 ++ refused) early.2) in
    let ends = early-ends why has bytes all (written_after old.told.conn 0 old.told.state (turns old.told.conn old.told.state all)) new.told.count from now sink to most so.still
    (first-fewer has.most bytes all refused next_so) (broke.wrote 0 refl) in
    record {
      read = so.read;
      took = so.took;
      asked = all;
      refused = refused;
      late = early.1.late;
      recorded = broke.recorded;
      finished = early-finished why old.told.conn old.told.state all refused broke.early broke.finished;
      idle = broke.idle;
      fit = broke.fit;
      few = early-refused why has bytes all refused early.1.late most broke.early early.1.few next_so;
      cause = ends.0;
      wrote = ends.1;
      stopped = broke.stops 0 refl;
    }

-- a violation that bytes show isn't EndInside
pub shown : (cause : Violation) (to : Input) (rest : List ℕ) → Breaks most_bytes rest cause → IsViolated cause to rest
shown violation.EndInside to rest breaks = absurd (never_ends most_bytes rest breaks)
shown violation.Endian to rest breaks = breaks
shown violation.Version to rest breaks = breaks
shown violation.ZeroSerial to rest breaks = breaks
shown violation.TooLarge to rest breaks = breaks
shown violation.BadHeader to rest breaks = breaks
shown violation.MissingField to rest breaks = breaks
shown violation.BadBody to rest breaks = breaks
shown violation.InvalidType to rest breaks = breaks

-- serving the complete messages ended the whole
pub answers-end : (has : Framing) (from now : Input) (left more : Framing) (old mid new : World) (next behind : ℕ) (sink o to : Output) (why : End) → has.most ≡ most_bytes
    → ServedSoFar has from now left old mid next sink o → AnswersAll left more mid new next behind o to (Err why) → ServesOn has from now old new sink to why
unfolding going-then
answers-end has from now left more old mid new next behind sink o to (end.Violation cause) most so answers =
    let g : ServedPrefix has.most left.rest more.rest mid new next behind o to = record {
      asked = answers.0.asked;
      messages = answers.0.messages;
      cut = rw (sym so.most) answers.0.cut;
      are = answers.0.are;
      answered = answers.0.answered;
    } in
    let going = going-then has.most (has.rest ++ so.read) left.rest more.rest old mid new 0 next behind sink o to so.going g in
    let all : AllRequests has.most (has.rest ++ so.read) (requests_of going.asked) more.rest = record {
      messages = going.messages;
      stream = stream_then has.most (has.rest ++ so.read) left.rest more.rest so.going.messages answers.0.messages so.going.cut (rw (sym so.most) answers.1);
      are = going.are;
    } in
    let served : AllServed (silent (opened (has.rest ++ so.read))) going.asked more.rest = record {
      behind = has.rest ++ so.read;
      opened = refl;
      all = subst (λ m. AllRequests m (has.rest ++ so.read) (requests_of going.asked) more.rest) most all;
    } in
    record {
      read = so.read;
      took = so.took;
      asked = going.asked;
      refused = [];
      late = [];
      recorded = going.answered.recorded;
      finished = going.answered.finished;
      idle = due-idle new.told false going.answered.idle;
      fit = going.answered.fit;
      few = (refl, refl);
      cause = ((more.rest, served, shown cause now more.rest (subst (λ m. Breaks m more.rest cause) (so.most ∙ most) answers.2)), so.still);
      wrote = (going.answered.wrote 0 refl).0;
      stopped = tt;
    }
answers-end has from now left more old mid new next behind sink o to end.EventsSpent most so answers = broke-end has from now left old mid new next sink o to end.EventsSpent most so answers
answers-end has from now left more old mid new next behind sink o to end.WriteFault most so answers = broke-end has from now left old mid new next sink o to end.WriteFault most so answers
answers-end has from now left more old mid new next behind sink o to end.Overrun most so answers = broke-end has from now left old mid new next sink o to end.Overrun most so answers
answers-end has from now left more old mid new next behind sink o to end.Memory most so answers = broke-end has from now left old mid new next sink o to end.Memory most so answers
answers-end has from now left more old mid new next behind sink o to _ most so answers = absurd answers.1.early

-- no more bytes were read
pub stays : (a b c : Input) (x : List ℕ) → Took a b x → Took b c [] → Took a c x
stays a b c x p q = let e : x ++ [] ≡ x = append-nil x in rw (sym e) (Took-trans a b c x [] p q)

pub feeds-end : (has : Framing) (from now later : Input) (left fed : Framing) (old new : World) (behind : ℕ) (sink o : Output) (why : End) → has.most ≡ most_bytes
    → IsThrough has from now left old new behind sink o → BreaksNone most_bytes left.rest → FeedsMore left fed now later (Err why) → ServesOn has from later old new sink o why
feeds-end has from now later left fed old new behind sink o end.ReadFault most so quiet feeds = record {
  read = so.so_far.read;
  took = stays from now later so.so_far.read so.so_far.took feeds.0;
  asked = so.so_far.going.asked;
  refused = [];
  late = [];
  recorded = so.so_far.going.answered.recorded;
  finished = so.so_far.going.answered.finished;
  idle = due-idle new.told false so.so_far.going.answered.idle;
  fit = so.so_far.going.answered.fit;
  few = (refl, refl);
  cause = (rose-later from.faults now.faults later.faults so.so_far.took.later feeds.1, inr (left.rest, all-served has from now left old new behind sink o most so, quiet));
  wrote = gave-so has from now left old new behind sink o so.so_far;
  stopped = tt;
}
feeds-end has from now later left fed old new behind sink o end.Done most so quiet feeds = record {
  read = so.so_far.read;
  took = stays from now later so.so_far.read so.so_far.took feeds.0;
  asked = so.so_far.going.asked;
  refused = [];
  late = [];
  recorded = so.so_far.going.answered.recorded;
  finished = so.so_far.going.answered.finished;
  idle = due-idle new.told false so.so_far.going.answered.idle;
  fit = so.so_far.going.answered.fit;
  few = (refl, refl);
  cause = (rw (sym feeds.2) (all-served has from now left old new behind sink o most so), feeds.1, feeds.3 ∙ so.so_far.still);
  wrote = gave-so has from now left old new behind sink o so.so_far;
  stopped = tt;
}
feeds-end has from now later left fed old new behind sink o (end.Violation violation.EndInside) most so quiet feeds = record {
  read = so.so_far.read;
  took = stays from now later so.so_far.read so.so_far.took feeds.0;
  asked = so.so_far.going.asked;
  refused = [];
  late = [];
  recorded = so.so_far.going.answered.recorded;
  finished = so.so_far.going.answered.finished;
  idle = due-idle new.told false so.so_far.going.answered.idle;
  fit = so.so_far.going.answered.fit;
  few = (refl, refl);
  cause = ((left.rest, all-served has from now left old new behind sink o most so, (feeds.2, feeds.1, quiet)), feeds.3 ∙ so.so_far.still);
  wrote = gave-so has from now left old new behind sink o so.so_far;
  stopped = tt;
}
feeds-end has from now later left fed old new behind sink o end.Memory most so quiet feeds =
    let bytes : has.rest ++ (so.so_far.read ++ feeds.0) ≡ (has.rest ++ so.so_far.read) ++ feeds.0 = sym (append_assoc has.rest so.so_far.read feeds.0) in
    let asked = so.so_far.going.asked in
    let first : FirstRequests has.most (has.rest ++ (so.so_far.read ++ feeds.0)) (requests_of asked) =
    rw bytes (record {
      messages = so.so_far.going.messages;
      rest = left.rest ++ feeds.0;
      cut = cut_more has.most (has.rest ++ so.so_far.read) feeds.0 left.rest so.so_far.going.messages so.so_far.going.cut;
      more = [];
      are = rw (append-nil (requests_of asked)) so.so_far.going.are;
    }) in
    let served = first-served has (has.rest ++ (so.so_far.read ++ feeds.0)) asked most first in
    record {
      read = so.so_far.read ++ feeds.0;
      took = Took-trans from now later so.so_far.read feeds.0 so.so_far.took feeds.1;
      asked = asked;
      refused = [];
      late = [];
      recorded = so.so_far.going.answered.recorded;
      finished = memory-finished old.told.conn old.told.state asked so.so_far.going.answered.finished;
      idle = due-idle new.told false so.so_far.going.answered.idle;
      fit = fit-first old.told.conn old.told.state asked so.so_far.going.answered.fit;
      few = none-refused (silent (opened (has.rest ++ (so.so_far.read ++ feeds.0)))) asked served;
      cause = (served, feeds.2 ∙ so.so_far.still);
      wrote = GaveFront-whole sink o (written_after old.told.conn 0 old.told.state (turns old.told.conn old.told.state asked)) (gave-so has from now left old new behind sink o so.so_far);
      stopped = inl (gave-so has from now left old new behind sink o so.so_far);
    }
feeds-end has from now later left fed old new behind sink o _ most so quiet feeds = absurd feeds

-- there was no memory to begin
pub never-served : (has : Framing) (from : Input) (w : World) (sink : Output) → has.most ≡ most_bytes → IsOwed w.told [] → ServesOn has from from w w sink sink end.Memory
never-served has from w sink most idle =
    let so = amid-none has from w sink idle in
    let served = first-served has (has.rest ++ so.read) so.going.asked most (first-so has.most (has.rest ++ so.read) has.rest w w 0 0 sink sink so.going) in
    record {
      read = so.read;
      took = so.took;
      asked = so.going.asked;
      refused = [];
      late = [];
      recorded = so.going.answered.recorded;
      finished = memory-finished w.told.conn w.told.state so.going.asked so.going.answered.finished;
      idle = due-idle w.told false so.going.answered.idle;
      fit = fit-first w.told.conn w.told.state so.going.asked so.going.answered.fit;
      few = none-refused (silent (opened (has.rest ++ so.read))) so.going.asked served;
      cause = (served, so.still);
      wrote = GaveFront-whole sink sink (written_after w.told.conn 0 w.told.state (turns w.told.conn w.told.state so.going.asked)) (gave-so has from from has w w 0 sink sink so);
      stopped = inl (gave-so has from from has w w 0 sink sink so);
    }
