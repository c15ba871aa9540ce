-- Each answer comes whenever it may, since there is one stream.
use Rattle.std.proofs.Common.{◌≡◌, ℕ, ◌+◌, List, [], ◌∷◌, drop, Option, Some, None, Result, Ok, Err, sym, subst}
use Rattle.dbus_types.specs.declared.message.Message.{Message}
use Rattle.dbus_framing.specs.declared.violation.Violation.{Violation}
use Rattle.dbus_framing.specs.declared.violation.FrameRefused.{FrameRefused}
use Rattle.dbus_framing.specs.declared.violation.FrameRefused.TheVariants as refused
use Rattle.dbus_framing.specs.declared.progress.Progress.{Progress}
use Rattle.dbus_framing.specs.declared.framer.Look.TheVariants as looks
use Rattle.dbus_framing.specs.Messages.{Parts, parts_of}
use Rattle.dbus_framing.specs.Streams.{Cut, Stream, Breaks, BreaksNone}
use Rattle.dbus_framing.specs.Framers.{Framing, Refused, IsExact}
use Rattle.dbus_framing.proofs.Cuts.{answers_begin, breaks_one, one_stream}
use Rattle.dbus_framing.proofs.Fronts.{framing, Behind}

abbrev no_message : Result (Option Message) FrameRefused
no_message = Ok None

abbrev no_memory : Result (Option Message) FrameRefused
no_memory = Err refused.OutOfMemory

abbrev violation_of : Violation → Result (Option Message) FrameRefused
violation_of cause = Err (refused.Violation cause)

abbrev message_is : Message → Result (Option Message) FrameRefused
message_is message = Ok (Some message)

not_none : (first : Parts) (further : List Parts) → [] ≡ first ∷ further → ⊥
not_none first further e = cc

first_is : (one other : Parts) (further more : List Parts) → other ∷ more ≡ one ∷ further → one ≡ other
first_is one other further more e = cc

pub exact_none : (most : ℕ) (bytes rest : List ℕ) → Stream most bytes [] rest → BreaksNone most rest → IsExact most bytes no_message
exact_none most bytes rest stream unbroken = record {
  none = λ waits. tt;
  violation = λ cause stops.
      let same : rest ≡ stops.rest = (one_stream most bytes rest stops.rest [] [] stream stops.stream).1 in
      unbroken cause (subst (λ (left : List ℕ). Breaks most left cause) (sym same) stops.breaks);
  message = λ first further left other. not_none first further (one_stream most bytes rest left [] (first ∷ further) stream other).0;
}

exact_violation : (most : ℕ) (bytes rest : List ℕ) (cause : Violation) → Stream most bytes [] rest → Breaks most rest cause → IsExact most bytes (violation_of cause)
exact_violation most bytes rest cause stream breaks = record {
  none = λ waits.
      let same : rest ≡ waits.rest = (one_stream most bytes rest waits.rest [] [] stream waits.stream).1 in
      waits.no_violation cause (subst (λ (left : List ℕ). Breaks most left cause) same breaks);
  violation = λ other stops.
      let same : rest ≡ stops.rest = (one_stream most bytes rest stops.rest [] [] stream stops.stream).1 in
      breaks_one most rest cause other breaks (subst (λ (left : List ℕ). Breaks most left other) (sym same) stops.breaks);
  message = λ first further left other. not_none first further (one_stream most bytes rest left [] (first ∷ further) stream other).0;
}

pub exact_refused : (old new : Framing) (cause : Violation) → Refused old cause new → IsExact old.most old.rest (violation_of cause)
exact_refused old new cause it = exact_violation old.most old.rest new.rest cause it.stream it.breaks

exact_message : (most : ℕ) (bytes left : List ℕ) (message : Message) → Cut most bytes (parts_of message ∷ []) left → IsExact most bytes (message_is message)
exact_message most bytes left message cut = record {
  none = λ waits. let it = answers_begin most bytes left waits.rest (parts_of message ∷ []) [] cut waits.stream in not_none (parts_of message) it.0 it.1;
  violation = λ cause stops. let it = answers_begin most bytes left stops.rest (parts_of message ∷ []) [] cut stops.stream in not_none (parts_of message) it.0 it.1;
  message = λ first further rest stream.
      let it = answers_begin most bytes left rest (parts_of message ∷ []) (first ∷ further) cut stream in first_is (parts_of message) first it.0 further it.1;
}

pub exact_whole : (most start taken : ℕ) (fed : List ℕ) (message : Message) (progress : Progress) (shown : Framing) → Behind most start fed taken (looks.Whole message)
    → framing most fed start progress ≡ shown → IsExact shown.most shown.rest (message_is message)
exact_whole most start taken fed message progress shown it view =
    subst (λ (f : Framing). IsExact f.most f.rest (message_is message)) view (exact_message most (drop start fed) (drop (start + taken) fed) message it.cut)

pub exact_memory : (most : ℕ) (bytes : List ℕ) → IsExact most bytes no_memory
exact_memory most bytes = record { none = λ waits. tt; violation = λ cause stops. tt; message = λ first further rest stream. tt }
