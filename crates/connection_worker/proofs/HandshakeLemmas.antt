-- A handshake continues by turns: lines are answered, and more is read.
use Rattle.std.proofs.Common.{◌≡◌, ℕ, ◌<◌, ◌≤◌, inl, inr, get_or, List, [], ◌∷◌, ◌++◌, length, drop, Result, Ok, Err, IfOk, OnErr, IsErrOf, refl, sym, ◌∙◌, ap, arith, append_assoc, append-nil, subst}
use Rattle.std.proofs.lemmas.List.Folds.{concat-append}
use Rattle.std.proofs.lemmas.Grind.{get_or_default_zero}
use Rattle.std.specs.List.{concat}
use Rattle.kr_outside.specs.Faults.{Rose}
use Rattle.dbus_auth.specs.declared.auth.AuthFault.{AuthFault}
use Rattle.dbus_auth.specs.declared.auth.AuthFault.TheVariants as fault
use Rattle.dbus_auth.specs.declared.auth.State.TheVariants.{WaitingForAuth}
use Rattle.dbus_auth.specs.Exchange.{Exchange}
use Rattle.dbus_auth.specs.Table.{fresh}
use Rattle.dbus_auth.specs.Conversation.{continued}
use Rattle.dbus_auth.specs.Handshake as shaking
use Rattle.dbus_auth.specs.Handshake.{Run, waiting, refused, opened, silent, run, handshake}
use Rattle.dbus_auth.proofs.RunLemmas.{run-append}
use Rattle.dbus_auth.proofs.HandshakeLemmas.{handshake-nothing, handshake-zero, handshake-other, run-refused}
use Rattle.dbus_framing.specs.Framers.{Framing, just_fed}
use Rattle.connection_worker.specs.declared.ending.End.{End}
use Rattle.connection_worker.specs.declared.ending.End.TheVariants as end
use Rattle.connection_worker.specs.Streams.{Input, Output, Took, IsStill, GaveFront}
use Rattle.connection_worker.specs.Lines.{Answers}
use Rattle.connection_worker.specs.Handshakes.{Both, most_bytes, IsRefusedFor, IsRefusedSo, EndsFor, HandshakeOutcome, ReadsMore, Reached, HandshakeOutcomeAfter}
use Rattle.connection_worker.proofs.StreamLemmas.{Took-none, Took-trans, Gave-later, Gave-none, Gave-trans, GaveFront-whole, GaveFront-more, GaveFront-behind}

-- a count that rose in a later call
pub rose-later : (a b c : ℕ) → a ≤ b → Rose b c → Rose a c
rose-later a b c later (inl rose) = inl (omega (arith, later, rose))
rose-later a b c later (inr stands) = inr stands

-- no bytes show that they ended
pub is_refused : (uid : ℕ) (guid bytes : List ℕ) (input : Input) (why : AuthFault) → IsRefusedSo (run (fresh uid guid) bytes).end input why
    → IsRefusedFor (run (fresh uid guid) bytes).end input why
is_refused uid guid bytes input fault.NoZero (inl is) = is
is_refused uid guid bytes input fault.LineTooLong (inl is) = is
is_refused uid guid bytes input fault.BeginTooSoon (inl is) = is
is_refused uid guid bytes input fault.EndedEarly (inl is) =
    let whole : run (fresh uid guid) bytes ≡ record { answers = (run (fresh uid guid) bytes).answers; end = refused fault.EndedEarly } =
    ap (λ (e : shaking.End). record { answers = (run (fresh uid guid) bytes).answers; end = e }) is in
    absurd ((run-refused uid guid bytes (run (fresh uid guid) bytes).answers fault.EndedEarly).0 whole)
is_refused uid guid bytes input fault.NoZero (inr late) = let e = late.0 in cc
is_refused uid guid bytes input fault.LineTooLong (inr late) = let e = late.0 in cc
is_refused uid guid bytes input fault.BeginTooSoon (inr late) = let e = late.0 in cc
is_refused uid guid bytes input fault.EndedEarly (inr late) = (late.1, late.2)

-- an end, seen from before an earlier reading
pub ends-from : (uid : ℕ) (guid bytes : List ℕ) (old mid : Input) (output : Output) (new : Both) (result : Result Framing End) → old.faults ≤ mid.faults → IsStill old mid
    → EndsFor IsRefusedSo (run (fresh uid guid) bytes) (record { input = mid; output = output }) new result
    → EndsFor IsRefusedFor (run (fresh uid guid) bytes) (record { input = old; output = output }) new result
ends-from uid guid bytes old mid output new (Ok framing) later same ends = (ends.0, ends.1, ends.2, ends.3, ends.4 ∙ same)
ends-from uid guid bytes old mid output new (Err (end.AuthRefused why)) later same ends = (is_refused uid guid bytes new.input why ends.0, ends.1, ends.2 ∙ same)
ends-from uid guid bytes old mid output new (Err end.ReadFault) later same ends = (ends.0, rose-later old.faults mid.faults new.input.faults later ends.1, ends.2)
ends-from uid guid bytes old mid output new (Err end.WriteFault) later same ends = (ends.0, ends.1, ends.2 ∙ same)
ends-from uid guid bytes old mid output new (Err end.Memory) later same ends = (ends.0, ends.1 ∙ same)
ends-from uid guid bytes old mid output new (Err _) later same ends = absurd ends

pub reached-none : (at : Exchange) (held : List ℕ) (b : Both) → Reached at held b b (run at held)
reached-none at held b = record {
  read = [];
  took = Took-none b.input;
  still = refl;
  answers = [];
  gave = Gave-none b.output;
  goes = ap (run at) (append-nil held);
}

-- lines were answered
pub reached-turn : (at next : Exchange) (held left : List ℕ) (old : Both) (input : Input) (mid new : Output) (further : Run)
    → Reached at held old (record { input = input; output = mid }) (run next left) → Answers next left mid new further
    → Reached at held old (record { input = input; output = new }) further
reached-turn at next held left old input mid new further so turn = record {
  read = so.read;
  took = so.took;
  still = so.still;
  answers = so.answers ++ turn.answers;
  gave = rw (concat-append so.answers turn.answers) (Gave-trans old.output mid new (concat so.answers) (concat turn.answers) so.gave turn.gave);
  goes =
      so.goes ∙ ap (λ (r : Run). record { answers = so.answers ++ r.answers; end = r.end }) turn.run
      ∙ ap (λ (told : List (List ℕ)). record { answers = told; end = further.end }) (sym (append_assoc so.answers turn.answers further.answers));
}

-- more was read
pub reached-more : (at next : Exchange) (held left rest more : List ℕ) (old : Both) (mid new : Input) (output : Output)
    → Reached at held old (record { input = mid; output = output }) (silent (waiting next rest)) → Took mid new more → left ≡ rest ++ more → IsStill mid new
    → Reached at held old (record { input = new; output = output }) (run next left)
reached-more at next held left rest more old mid new output so took is same = record {
  read = so.read ++ more;
  took = Took-trans old.input mid new so.read more so.took took;
  still = same ∙ so.still;
  answers = so.answers;
  gave = so.gave;
  goes =
      ap (run at) (sym (append_assoc held so.read more)) ∙ run-append at (held ++ so.read) more ∙ ap (λ (r : Run). continued r more) so.goes
      ∙ ap (λ (told : List (List ℕ)). record { answers = told ++ (run next (rest ++ more)).answers; end = (run next (rest ++ more)).end }) (append-nil so.answers)
      ∙ ap (λ (l : List ℕ). record { answers = so.answers ++ (run next l).answers; end = (run next l).end }) (sym is);
}

-- a source that gave nothing more
no-more : (a b c : Input) (x : List ℕ) → Took a b x → Took b c [] → Took a c x
no-more a b c x p q = let e : x ++ [] ≡ x = append-nil x in rw (sym e) (Took-trans a b c x [] p q)

-- the run so far is this one, and its answers are written
told-run : (at : Exchange) (held : List ℕ) (old new : Both) (how : Run) → how.answers ≡ [] → (so : Reached at held old new how)
    → run at (held ++ so.read) ≡ record { answers = so.answers; end = how.end }
told-run at held old new how none so =
    so.goes ∙ ap (λ (told : List (List ℕ)). record { answers = so.answers ++ told; end = how.end }) none
    ∙ ap (λ (told : List (List ℕ)). record { answers = told; end = how.end }) (append-nil so.answers)

-- messages follow
pub opens : (at : Exchange) (held rest : List ℕ) (old new : Both) (framing : Framing) → Reached at held old new (silent (opened rest))
    → framing ≡ just_fed most_bytes rest → HandshakeOutcomeAfter at held old new (Ok framing)
opens at held rest old new framing so is =
    let how = told-run at held old new (silent (opened rest)) refl so in
    record {
      read = so.read;
      took = so.took;
      ends = rw how (rw is (refl, refl, refl, so.gave, so.still));
    }

-- there was no memory for them
pub no_room : (at : Exchange) (held rest : List ℕ) (old new : Both) → Reached at held old new (silent (opened rest)) → HandshakeOutcomeAfter at held old new (Err end.Memory)
no_room at held rest old new so =
    let how = told-run at held old new (silent (opened rest)) refl so in
    record { read = so.read; took = so.took; ends = rw how (GaveFront-whole old.output new.output (concat so.answers) so.gave, so.still) }

-- a framer was made for them, or there was no memory for it
pub begins : (at : Exchange) (held rest : List ℕ) (old new : Both) (result : Result Framing End) → Reached at held old new (silent (opened rest))
    → IfOk result (λ framing. framing ≡ just_fed most_bytes rest) → OnErr result (IsErrOf result end.Memory) → HandshakeOutcomeAfter at held old new result
begins at held rest old new (Ok framing) so fed memory = opens at held rest old new framing so fed
begins at held rest old new (Err why) so fed memory = rw memory (no_room at held rest old new so)

-- the handshake is refused
pub refuses : (at : Exchange) (held : List ℕ) (old new : Both) (why : AuthFault) → Reached at held old new (silent (refused why))
    → HandshakeOutcomeAfter at held old new (Err (end.AuthRefused why))
refuses at held old new why so =
    let how = told-run at held old new (silent (refused why)) refl so in
    record { read = so.read; took = so.took; ends = rw how (inl refl, so.gave, so.still) }

-- the sink failed
pub fails : (at next : Exchange) (held left : List ℕ) (old : Both) (input : Input) (mid new : Output)
    → Reached at held old (record { input = input; output = mid }) (run next left) → Rose mid.faults new.faults → GaveFront mid new (concat (run next left).answers)
    → HandshakeOutcomeAfter at held old (record { input = input; output = new }) (Err end.WriteFault)
fails at next held left old input mid new so rose front =
    let all : concat (run at (held ++ so.read)).answers ≡ concat so.answers ++ concat (run next left).answers =
    ap (λ (r : Run). concat r.answers) so.goes ∙ concat-append so.answers (run next left).answers in
    record {
      read = so.read;
      took = so.took;
      ends = (rose-later old.output.faults mid.faults new.faults (Gave-later old.output mid (concat so.answers) so.gave) rose, rw all (GaveFront-behind old.output mid new (concat so.answers) (concat (run next left).answers) so.gave front), so.still);
    }

-- nothing more was read
pub reads_no_more : (at next : Exchange) (held rest left : List ℕ) (old : Both) (mid new : Input) (output : Output) (why : End)
    → Reached at held old (record { input = mid; output = output }) (silent (waiting next rest)) → ReadsMore rest left mid new (Err why)
    → HandshakeOutcomeAfter at held old (record { input = new; output = output }) (Err why)
reads_no_more at next held rest left old mid new output end.ReadFault so more =
    let how = told-run at held old (record { input = mid; output = output }) (silent (waiting next rest)) refl so in
    record {
      read = so.read;
      took = no-more old.input mid new so.read so.took more.0;
      ends = rw how (tt, rose-later old.input.faults mid.faults new.faults so.took.later more.1, so.gave);
    }
reads_no_more at next held rest left old mid new output (end.AuthRefused fault.EndedEarly) so more =
    let how = told-run at held old (record { input = mid; output = output }) (silent (waiting next rest)) refl so in
    record {
      read = so.read;
      took = no-more old.input mid new so.read so.took more.0;
      ends = rw how (inr (refl, tt, more.1), so.gave, more.2 ∙ so.still);
    }
reads_no_more at next held rest left old mid new output end.Memory so more =
    let on = reached-more at next held (rest ++ more.0) rest more.0 old mid new output so more.1 refl more.2 in
    let all : concat (run at (held ++ on.read)).answers ≡ concat on.answers ++ concat (run next (rest ++ more.0)).answers =
    ap (λ (r : Run). concat r.answers) on.goes ∙ concat-append on.answers (run next (rest ++ more.0)).answers in
    record {
      read = on.read;
      took = on.took;
      ends = (rw all (GaveFront-more old.output output (concat on.answers) (concat (run next (rest ++ more.0)).answers) (GaveFront-whole old.output output (concat on.answers) on.gave)), on.still);
    }
reads_no_more at next held rest left old mid new output _ so more = absurd more

-- ---- the first piece

-- nothing was read, or there was no memory for it
pub never_began : (uid : ℕ) (guid left : List ℕ) (old new : Input) (output : Output) (why : End) → ReadsMore [] left old new (Err why)
    → HandshakeOutcome uid guid (record { input = old; output = output }) (record { input = new; output = output }) (Err why)
never_began uid guid left old new output end.ReadFault more = record {
  read = [];
  took = more.0;
  ends = rw (handshake-nothing uid guid) (tt, more.1, Gave-none output);
}
never_began uid guid left old new output (end.AuthRefused fault.EndedEarly) more = record {
  read = [];
  took = more.0;
  ends = rw (handshake-nothing uid guid) ((tt, more.1), Gave-none output, more.2);
}
never_began uid guid left old new output end.Memory more = record {
  read = more.0;
  took = more.1;
  ends = (GaveFront-more output output [] (concat (handshake uid guid more.0).answers) (GaveFront-whole output output [] (Gave-none output)), more.2);
}
never_began uid guid left old new output _ more = absurd more

-- the first byte isn't zero
pub no_zero : (uid : ℕ) (guid held : List ℕ) (old new : Input) (output : Output) → ReadsMore [] held old new (Ok tt) → (get_or held 0 0 ≡ 0 → ⊥)
    → HandshakeOutcome uid guid (record { input = old; output = output }) (record { input = new; output = output }) (Err (end.AuthRefused fault.NoZero))
no_zero uid guid [] old new output more other = absurd (other refl)
no_zero uid guid (first ∷ bytes) old new output more other = record {
  read = more.0;
  took = more.1;
  ends = rw (sym more.2, handshake-other uid guid first bytes other) (refl, Gave-none output, more.4);
}

-- it is, and lines follow
pub began : (uid : ℕ) (guid held : List ℕ) (old mid : Input) (output : Output) (new : Both) (result : Result Framing End) → ReadsMore [] held old mid (Ok tt) → get_or held 0 0 ≡ 0
    → HandshakeOutcomeAfter (fresh uid guid) (drop 1 held) (record { input = mid; output = output }) new result
    → HandshakeOutcome uid guid (record { input = old; output = output }) new result
began uid guid [] old mid output new result more is on =
    let e : length more.0 ≡ 0 = ap length (sym more.2) in
    absurd (omega (arith, e, more.3))
began uid guid (first ∷ bytes) old mid output new result more is on =
    let whole : handshake uid guid (more.0 ++ on.read) ≡ run (fresh uid guid) (bytes ++ on.read) =
    ap (λ (l : List ℕ). handshake uid guid (l ++ on.read)) (sym more.2) ∙ ap (λ (b : ℕ). handshake uid guid (b ∷ (bytes ++ on.read))) is ∙ handshake-zero uid guid (bytes ++ on.read) in
    record {
      read = more.0 ++ on.read;
      took = Took-trans old mid new.input more.0 on.read more.1 on.took;
      ends = rw whole (ends-from uid guid (bytes ++ on.read) old mid output new result more.1.later more.4 on.ends);
    }

-- the same for a new handshake
pub began-at : (at : Exchange) (held behind : List ℕ) (old mid : Input) (output : Output) (new : Both) (result : Result Framing End) → at.state ≡ WaitingForAuth → behind ≡ drop 1 held
    → ReadsMore [] held old mid (Ok tt) → get_or held 0 0 ≡ 0 → HandshakeOutcomeAfter at behind (record { input = mid; output = output }) new result
    → HandshakeOutcome at.uid at.guid (record { input = old; output = output }) new result
began-at at held behind old mid output new result is_fresh is_behind more zero_there on =
    let P : Exchange → Type 0 = λ t. HandshakeOutcomeAfter t (drop 1 held) (record { input = mid; output = output }) new result in
    began at.uid at.guid held old mid output new result more zero_there
    (subst P (λ i. record { uid = at.uid; guid = at.guid; state = is_fresh i }) (rw is_behind at on))

-- what was read after bytes that equal these
pub more_behind : (old rest left : List ℕ) (mid new : Input) (result : Result Unit End) → old ≡ rest → ReadsMore old left mid new result → ReadsMore rest left mid new result
more_behind old rest left mid new result is more = subst (λ (held : List ℕ). ReadsMore held left mid new result) is more

-- the first byte, read by its index
pub first_is : (held : List ℕ) (byte : ℕ) → byte ≡ get_or held 0 byte → 0 < length held → byte ≡ get_or held 0 0
first_is held byte is some = is ∙ get_or_default_zero held 0 byte some
