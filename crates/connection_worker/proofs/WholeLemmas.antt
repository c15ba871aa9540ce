-- An input whose bytes are complete messages is read to its end, if its source doesn't fail.
use Rattle.std.proofs.Common.{◌≡◌, ◌≢◌, ℕ, ◌≤◌, inl, inr, refl, List, [], ◌++◌, length, Option, Some, None, sym, ◌∙◌, ap, arith, subst, append-nil, append_assoc}
use Rattle.std.specs.Io.KnownBytes.{Consumes, IsAtEnd}
use Rattle.kr_outside.specs.Faults.{Rose, StandsStill}
use Rattle.dbus_framing.specs.declared.violation.Violation.{Violation}
use Rattle.dbus_framing.specs.declared.violation.Violation.TheVariants as violation
use Rattle.dbus_framing.specs.Messages.{Parts}
use Rattle.dbus_framing.specs.Streams.{Stream, Breaks, early, late}
use Rattle.dbus_framing.proofs.Cuts.{cut_none, cut_more, breaks_stay, breaks_none, one_stream, stream_then}
use Rattle.service_desk.specs.secret_calls.specs.declared.call.Request.{Request}
use Rattle.connection_worker.specs.declared.ending.End.{End}
use Rattle.connection_worker.specs.declared.ending.End.TheVariants as end
use Rattle.connection_worker.specs.Causes.{IsViolated}
use Rattle.connection_worker.specs.Handshakes.{most_bytes}
use Rattle.connection_worker.specs.Reader.{ReadFor, IsWholeEnd}
use Rattle.connection_worker.specs.Streams.{Input, Took}

-- a count that stays the same didn't rise
pub still : (old new : ℕ) → StandsStill old new → Rose old new → ⊥
still old new s (inl rose) = omega (arith, s.0)
still old new s (inr stands) = s.1 stands

-- what was read begins the bytes
pub front-of : (old new : Option (List ℕ)) (read bytes : List ℕ) → old ≡ Some bytes → Consumes old new read → (left : List ℕ) × (bytes ≡ read ++ left) × (new ≡ Some left)
front-of None new read bytes e c = absurd (let f : None ≡ Some bytes = e in cc)
front-of (Some xs) None read bytes e c = absurd c
front-of (Some xs) (Some ys) read bytes e c = let same : xs ≡ bytes = cc in (ys, sym same ∙ c, refl)

-- nothing is left at an end
pub at-end : (new : Option (List ℕ)) (left : List ℕ) → new ≡ Some left → IsAtEnd new → left ≡ []
at-end None left e end = absurd (let f : None ≡ Some left = e in cc)
at-end (Some xs) left e end = let same : xs ≡ left = cc in sym same ∙ end

breaks-long : (bytes : List ℕ) (cause : Violation) → Breaks most_bytes bytes cause → 16 ≤ length bytes
breaks-long bytes cause (early begun broken) = begun
breaks-long bytes cause (late head begun known fits read) = begun

-- a rest that shows a violation is left over
never-broken : (behind left rest : List ℕ) (messages all : List Parts) (cause : Violation) → Stream most_bytes behind messages rest → Breaks most_bytes rest cause
    → Stream most_bytes (behind ++ left) all [] → ⊥
never-broken behind left rest messages all cause stream breaks whole =
    let more = breaks_stay most_bytes rest left cause breaks in
    let alone : Stream most_bytes (rest ++ left) [] (rest ++ left) = record { cut = cut_none most_bytes (rest ++ left); no_more = breaks_none most_bytes (rest ++ left) cause more } in
    let other = stream_then most_bytes (behind ++ left) (rest ++ left) (rest ++ left) messages [] (cut_more most_bytes behind left rest messages stream.cut) alone in
    let none : rest ++ left ≡ [] = (one_stream most_bytes (behind ++ left) (rest ++ left) [] (messages ++ []) all other whole).1 in
    let short : length (rest ++ left) ≡ 0 = ap length none in
    omega (arith, breaks-long (rest ++ left) cause more, short)

-- so is one inside which the input ended
never-ended : (behind left rest : List ℕ) (messages all : List Parts) (to : Input) → to.left ≡ Some left → Stream most_bytes behind messages rest → rest ≢ [] → IsAtEnd to.left
    → Stream most_bytes (behind ++ left) all [] → ⊥
never-ended behind left rest messages all to told stream some ended whole =
    let none : left ≡ [] = at-end to.left left told ended in
    let here : Stream most_bytes behind all [] = subst (λ l. Stream most_bytes l all []) (ap (λ l. behind ++ l) none ∙ append-nil behind) whole in
    some (one_stream most_bytes behind rest [] messages all stream here).1

-- so the cause of a violation isn't there
pub never-violated : (behind left rest : List ℕ) (messages all : List Parts) (to : Input) (cause : Violation) → to.left ≡ Some left → Stream most_bytes behind messages rest
    → IsViolated cause to rest → Stream most_bytes (behind ++ left) all [] → ⊥
never-violated behind left rest messages all to violation.EndInside told stream is whole = never-ended behind left rest messages all to told stream is.0 is.1 whole
never-violated behind left rest messages all to violation.Endian told stream is whole = never-broken behind left rest messages all violation.Endian stream is whole
never-violated behind left rest messages all to violation.Version told stream is whole = never-broken behind left rest messages all violation.Version stream is whole
never-violated behind left rest messages all to violation.ZeroSerial told stream is whole = never-broken behind left rest messages all violation.ZeroSerial stream is whole
never-violated behind left rest messages all to violation.TooLarge told stream is whole = never-broken behind left rest messages all violation.TooLarge stream is whole
never-violated behind left rest messages all to violation.BadHeader told stream is whole = never-broken behind left rest messages all violation.BadHeader stream is whole
never-violated behind left rest messages all to violation.MissingField told stream is whole = never-broken behind left rest messages all violation.MissingField stream is whole
never-violated behind left rest messages all to violation.BadBody told stream is whole = never-broken behind left rest messages all violation.BadBody stream is whole
never-violated behind left rest messages all to violation.InvalidType told stream is whole = never-broken behind left rest messages all violation.InvalidType stream is whole

-- a reader ends so
pub whole-end : (how : End) (rest read bytes : List ℕ) (requests : List Request) (messages : List Parts) (from to : Input) → Took from to read → ReadFor how (rest ++ read) requests from to
    → from.left ≡ Some bytes → StandsStill from.faults to.faults → Stream most_bytes (rest ++ bytes) messages [] → IsWholeEnd how
whole-end how rest read bytes requests messages from to took cause told same stream = by_cause how cause
  where
    front : (left : List ℕ) × (bytes ≡ read ++ left) × (to.left ≡ Some left)
    front = front-of from.left to.left read bytes told took.consumed

    left : List ℕ
    left = front.0

    whole : Stream most_bytes ((rest ++ read) ++ left) messages []
    whole = subst (λ l. Stream most_bytes l messages []) (ap (λ l. rest ++ l) front.1 ∙ sym (append_assoc rest read left)) stream

    by_cause : (how : End) → ReadFor how (rest ++ read) requests from to → IsWholeEnd how
    by_cause end.Done cause = tt
    by_cause (end.Violation which) cause =
        let all = cause.0.1 in
        absurd (never-violated (rest ++ read) left cause.0.0 all.messages messages to which front.2 all.stream cause.0.2 whole)
    by_cause end.ReadFault cause = absurd (still from.faults to.faults same cause.1)
    by_cause end.EventsSpent cause = tt
    by_cause end.OtherEnded cause = tt
    by_cause end.Memory cause = tt
    by_cause (end.AuthRefused why) cause = absurd cause
    by_cause end.WriteFault cause = absurd cause
    by_cause end.Overrun cause = absurd cause
