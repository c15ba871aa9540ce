-- Streams: cuts one after the other, and that there is one stream.
use Rattle.std.proofs.Common.{◌≡◌, ℕ, ◌<◌, List, [], ◌∷◌, ◌++◌, length, take, Result, Ok, Err, refl, sym, ap, subst, ◌∙◌, arith, append_assoc, append-nil, length-append}
use Rattle.std.specs.Prelude.{filter}
use Rattle.std.proofs.lemmas.List.{take_at, append_cancel_left, take-append-le}
use Rattle.std.proofs.lemmas.List.Elements.{filter-append}
use Rattle.dbus_types.specs.declared.endian.Endian.{Endian}
use Rattle.dbus_framing.specs.declared.violation.Violation.{Violation}
use Rattle.dbus_framing.specs.declared.head.Head.{Head}
use Rattle.dbus_framing.specs.Messages.{Parts, IsMessage, head_of, message_at}
use Rattle.dbus_framing.specs.Streams.{joined, AreMessages, is_kept, Cut, BeginsNone, Stream, Breaks, early, late, BreaksNone, Turn, fed, answered, fed_in, answered_in, LeavesRest}
use Rattle.dbus_framing.proofs.Heads.{head_stays}
use Rattle.dbus_framing.proofs.Readings.{message_head, message_read, same_head, one_meaning}

joined-append : (one other : List (List ℕ)) → joined (one ++ other) ≡ joined one ++ joined other
joined-append [] other = refl
joined-append (spelling ∷ one) other = ap (λ (bytes : List ℕ). spelling ++ bytes) (joined-append one other) ∙ sym (append_assoc spelling (joined one) (joined other))

AreMessages-append : (most : ℕ) (one : List (List ℕ)) (messages : List Parts) (other : List (List ℕ)) (further : List Parts)
    → AreMessages most one messages → AreMessages most other further → AreMessages most (one ++ other) (messages ++ further)
AreMessages-append most [] [] other further p q = q
AreMessages-append most [] (parts ∷ messages) other further p q = absurd p
AreMessages-append most (spelling ∷ one) [] other further p q = absurd p
AreMessages-append most (spelling ∷ one) (parts ∷ messages) other further p q = (p.0, AreMessages-append most one messages other further p.1 q)

pub cut_none : (most : ℕ) (bytes : List ℕ) → Cut most bytes [] bytes
cut_none most bytes = record { spellings = []; spelled = []; parted = refl; each = tt; kept = refl }

pub cut_one : (most : ℕ) (bytes spelling behind : List ℕ) (parts : Parts) → IsMessage most spelling parts → bytes ≡ spelling ++ behind
    → Cut most bytes (filter is_kept (parts ∷ [])) behind
cut_one most bytes spelling behind parts m e = record {
  spellings = spelling ∷ [];
  spelled = parts ∷ [];
  parted = e ∙ ap (λ (front : List ℕ). front ++ behind) (sym (append-nil spelling));
  each = (m, tt);
  kept = refl;
}

pub cut_then : (most : ℕ) (bytes rest left : List ℕ) (answers further : List Parts) → Cut most bytes answers rest → Cut most rest further left
    → Cut most bytes (answers ++ further) left
cut_then most bytes rest left answers further p q = record {
  spellings = p.spellings ++ q.spellings;
  spelled = p.spelled ++ q.spelled;
  parted = p.parted ∙ ap (λ (behind : List ℕ). joined p.spellings ++ behind) q.parted ∙ sym (append_assoc (joined p.spellings) (joined q.spellings) left)
      ∙ ap (λ (front : List ℕ). front ++ left) (sym (joined-append p.spellings q.spellings));
  each = AreMessages-append most p.spellings p.spelled q.spellings q.spelled p.each q.each;
  kept = ap (λ (front : List Parts). front ++ further) p.kept ∙ ap (λ (behind : List Parts). filter is_kept p.spelled ++ behind) q.kept
      ∙ sym (filter-append is_kept p.spelled q.spelled);
}

pub cut_more : (most : ℕ) (bytes piece rest : List ℕ) (answers : List Parts) → Cut most bytes answers rest → Cut most (bytes ++ piece) answers (rest ++ piece)
cut_more most bytes piece rest answers p = record {
  spellings = p.spellings;
  spelled = p.spelled;
  parted = ap (λ (front : List ℕ). front ++ piece) p.parted ∙ append_assoc (joined p.spellings) rest piece;
  each = p.each;
  kept = p.kept;
}

-- two messages before the same bytes are the same
pub record SameFront (one other : List ℕ) (behind left : List ℕ) (parts further : Parts) : Type 0 where
  pub front_is : one ≡ other
  pub behind_is : behind ≡ left
  pub parts_are : parts ≡ further

same_front : (most : ℕ) (one other behind left : List ℕ) (parts further : Parts) → IsMessage most one parts → IsMessage most other further
    → one ++ behind ≡ other ++ left → SameFront one other behind left parts further
same_front most one other behind left parts further m n e =
    let head = same_head most (one ++ behind) (record { endian = m.endian; size = length one }) (record { endian = n.endian; size = length other })
    (message_head most one behind parts m) (ap (head_of most) e ∙ message_head most other left further n) in
    let long : length one ≡ length other = ap (λ (h : Head). h.size) head in
    let spelling : one ≡ other = sym (take_at one behind (length one) refl) ∙ ap (take (length one)) e ∙ take_at other left (length one) (sym long) in
    record {
      front_is = spelling;
      behind_is = append_cancel_left one behind left (e ∙ ap (λ (front : List ℕ). front ++ left) (sym spelling));
      parts_are = one_meaning most other parts further (subst (λ (s : List ℕ). IsMessage most s parts) spelling m) n;
    }

-- what comes after messages that begin a stream
record Follows (most : ℕ) (messages all : List Parts) (left rest : List ℕ) : Type 0 where
  spellings : List (List ℕ)
  spelled : List Parts
  all_are : all ≡ messages ++ spelled
  each : AreMessages most spellings spelled
  parted : left ≡ joined spellings ++ rest

follows : (most : ℕ) (one : List (List ℕ)) (messages : List Parts) (left : List ℕ) (other : List (List ℕ)) (all : List Parts) (rest : List ℕ)
    → AreMessages most one messages → AreMessages most other all → joined one ++ left ≡ joined other ++ rest → BeginsNone most rest
    → Follows most messages all left rest
follows most [] [] left other all rest p q e none = record { spellings = other; spelled = all; all_are = refl; each = q; parted = e }
follows most [] (parts ∷ messages) left other all rest p q e none = absurd p
follows most (spelling ∷ one) [] left other all rest p q e none = absurd p
follows most (spelling ∷ one) (parts ∷ messages) left [] [] rest p q e none =
    absurd (none spelling (joined one ++ left) parts (sym e ∙ append_assoc spelling (joined one) left) p.0)
follows most (spelling ∷ one) (parts ∷ messages) left [] (other ∷ all) rest p q e none = absurd q
follows most (spelling ∷ one) (parts ∷ messages) left (second ∷ other) [] rest p q e none = absurd q
follows most (spelling ∷ one) (parts ∷ messages) left (second ∷ other) (further ∷ all) rest p q e none =
    let same = same_front most spelling second (joined one ++ left) (joined other ++ rest) parts further p.0 q.0
    (sym (append_assoc spelling (joined one) left) ∙ e ∙ append_assoc second (joined other) rest) in
    let it = follows most one messages left other all rest p.1 q.1 same.behind_is none in
    record {
      spellings = it.spellings;
      spelled = it.spelled;
      all_are = ap (λ (first : Parts). first ∷ all) (sym same.parts_are) ∙ ap (λ (more : List Parts). parts ∷ more) it.all_are;
      each = it.each;
      parted = it.parted;
    }

pub answers_begin : (most : ℕ) (bytes left rest : List ℕ) (answers messages : List Parts) → Cut most bytes answers left → Stream most bytes messages rest
    → (further : List Parts) × (messages ≡ answers ++ further) × Stream most left further rest
answers_begin most bytes left rest answers messages p q =
    let it = follows most p.spellings p.spelled left q.cut.spellings q.cut.spelled rest p.each q.cut.each (sym p.parted ∙ q.cut.parted) q.no_more in (
      filter is_kept it.spelled,
      q.cut.kept ∙ ap (filter is_kept) it.all_are ∙ filter-append is_kept p.spelled it.spelled
          ∙ ap (λ (front : List Parts). front ++ filter is_kept it.spelled) (sym p.kept),
      record { cut = record { spellings = it.spellings; spelled = it.spelled; parted = it.parted; each = it.each; kept = refl }; no_more = q.no_more },
    )

-- ---- violations

abbrev refusal : Violation → Result Head Violation
refusal cause = Err cause

abbrev said_refusal : Violation → Result Parts Violation
said_refusal cause = Err cause

refusal_is : (one other : Violation) → refusal one ≡ refusal other → one ≡ other
refusal_is one other e = cc

said_refusal_is : (one other : Violation) → said_refusal one ≡ said_refusal other → one ≡ other
said_refusal_is one other e = cc

no_head : (most : ℕ) (bytes : List ℕ) (cause : Violation) (head : Head) → head_of most bytes ≡ Err cause → head_of most bytes ≡ Ok head → ⊥
no_head most bytes cause head p q = let e : refusal cause ≡ Ok head = sym p ∙ q in cc

no_message : (endian : Endian) (bytes : List ℕ) (cause : Violation) (parts : Parts) → message_at endian bytes ≡ Err cause → message_at endian bytes ≡ Ok parts → ⊥
no_message endian bytes cause parts p q = let e : said_refusal cause ≡ Ok parts = sym p ∙ q in cc

pub breaks_stay : (most : ℕ) (bytes piece : List ℕ) (cause : Violation) → Breaks most bytes cause → Breaks most (bytes ++ piece) cause
breaks_stay most bytes piece cause (early begun broken) = early (omega (arith, length-append bytes piece)) (head_stays most bytes piece begun ∙ broken)
breaks_stay most bytes piece cause (late head begun known fits read) =
    late head (omega (arith, length-append bytes piece)) (head_stays most bytes piece begun ∙ known) (omega (arith, length-append bytes piece))
    (ap (message_at head.endian) (take-append-le head.size bytes piece fits) ∙ read)

pub breaks_one : (most : ℕ) (bytes : List ℕ) (cause other : Violation) → Breaks most bytes cause → Breaks most bytes other → cause ≡ other
breaks_one most bytes cause other (early begun broken) (early also shown) = refusal_is cause other (sym broken ∙ shown)
breaks_one most bytes cause other (early begun broken) (late head also known fits read) = absurd (no_head most bytes cause head broken known)
breaks_one most bytes cause other (late head begun known fits read) (early also shown) = absurd (no_head most bytes other head shown known)
breaks_one most bytes cause other (late head begun known fits read) (late again also shown enough seen) =
    said_refusal_is cause other (sym read ∙ ap (λ (h : Head). message_at h.endian (take h.size bytes)) (same_head most bytes head again known shown) ∙ seen)

pub breaks_none : (most : ℕ) (bytes : List ℕ) (cause : Violation) → Breaks most bytes cause → BeginsNone most bytes
breaks_none most bytes cause (early begun broken) = λ spelling behind parts e m.
    no_head most bytes cause (record { endian = m.endian; size = length spelling }) broken (ap (head_of most) e ∙ message_head most spelling behind parts m)
breaks_none most bytes cause (late head begun known fits read) = λ spelling behind parts e m.
    let is = same_head most bytes head (record { endian = m.endian; size = length spelling }) known (ap (head_of most) e ∙ message_head most spelling behind parts m) in
    let front : take (length spelling) bytes ≡ spelling = ap (take (length spelling)) e ∙ take_at spelling behind (length spelling) refl in
    no_message m.endian spelling cause parts
    (sym (ap (λ (h : Head). message_at h.endian (take h.size bytes)) is ∙ ap (message_at m.endian) front) ∙ read) (message_read most spelling parts m)

-- ---- what waits

pub few_begin : (most : ℕ) (bytes : List ℕ) → length bytes < 16 → BeginsNone most bytes
few_begin most bytes few = λ spelling behind parts e m. omega (arith, m.begun, ap length e, length-append spelling behind)

pub few_break : (most : ℕ) (bytes : List ℕ) → length bytes < 16 → BreaksNone most bytes
few_break most bytes few = λ cause broken. begun_not most bytes cause broken few
  where
    begun_not : (most : ℕ) (bytes : List ℕ) (cause : Violation) → Breaks most bytes cause → length bytes < 16 → ⊥
    begun_not most bytes cause (early begun broken) few = omega arith
    begun_not most bytes cause (late head begun known fits read) few = omega arith

pub short_begin : (most : ℕ) (bytes : List ℕ) (head : Head) → head_of most bytes ≡ Ok head → length bytes < head.size → BeginsNone most bytes
short_begin most bytes head known short = λ spelling behind parts e m.
    let is = same_head most bytes head (record { endian = m.endian; size = length spelling }) known (ap (head_of most) e ∙ message_head most spelling behind parts m) in
    let size : head.size ≡ length spelling = ap (λ (h : Head). h.size) is in
    omega (arith, ap length e, length-append spelling behind)

pub short_break : (most : ℕ) (bytes : List ℕ) (head : Head) → head_of most bytes ≡ Ok head → length bytes < head.size → BreaksNone most bytes
short_break most bytes head known short = λ cause broken. fits_not most bytes cause head broken known short
  where
    fits_not : (most : ℕ) (bytes : List ℕ) (cause : Violation) (head : Head) → Breaks most bytes cause → head_of most bytes ≡ Ok head → length bytes < head.size → ⊥
    fits_not most bytes cause head (early begun broken) known short = no_head most bytes cause head broken known
    fits_not most bytes cause head (late again begun shown fits read) known short =
        let size : again.size ≡ head.size = ap (λ (h : Head). h.size) (same_head most bytes again head shown known) in omega arith

-- ---- any turns of a framer

pub went_cut : (most : ℕ) (turns : List Turn) (rest : List ℕ) → LeavesRest most turns rest → Cut most (fed_in turns) (answered_in turns) rest
went_cut most [] rest went = subst (λ (bytes : List ℕ). Cut most [] [] bytes) (sym went) (cut_none most [])
went_cut most (fed piece ∷ before) rest went =
    subst (λ (bytes : List ℕ). Cut most (fed_in before ++ piece) (answered_in before) bytes) (sym went.2)
    (cut_more most (fed_in before) piece went.0 (answered_in before) (went_cut most before went.0 went.1))
went_cut most (answered messages ∷ before) rest went =
    cut_then most (fed_in before) went.0 rest (answered_in before) messages (went_cut most before went.0 went.1) went.2

pub went_begins : (most : ℕ) (turns : List Turn) (left rest : List ℕ) (messages : List Parts) → LeavesRest most turns left → Stream most (fed_in turns) messages rest
    → (further : List Parts) × (messages ≡ answered_in turns ++ further) × Stream most left further rest
went_begins most turns left rest messages went stream = answers_begin most (fed_in turns) left rest (answered_in turns) messages (went_cut most turns left went) stream

-- ---- there is one stream

-- after messages that are followed by bytes of which no prefix is one
ended : (most : ℕ) (spellings : List (List ℕ)) (spelled : List Parts) (rest left : List ℕ) → AreMessages most spellings spelled → rest ≡ joined spellings ++ left
    → BeginsNone most rest → (filter is_kept spelled ≡ []) × (rest ≡ left)
ended most [] [] rest left each parted none = (refl, parted)
ended most [] (parts ∷ spelled) rest left each parted none = absurd each
ended most (spelling ∷ spellings) [] rest left each parted none = absurd each
ended most (spelling ∷ spellings) (parts ∷ spelled) rest left each parted none =
    absurd (none spelling (joined spellings ++ left) parts (parted ∙ append_assoc spelling (joined spellings) left) each.0)

pub one_stream : (most : ℕ) (bytes rest left : List ℕ) (messages others : List Parts) → Stream most bytes messages rest → Stream most bytes others left
    → (messages ≡ others) × (rest ≡ left)
one_stream most bytes rest left messages others p q =
    let it = answers_begin most bytes rest left messages others p.cut q in
    let end = ended most it.2.cut.spellings it.2.cut.spelled rest left it.2.cut.each it.2.cut.parted p.no_more in (
      sym (it.1 ∙ ap (λ (further : List Parts). messages ++ further) (it.2.cut.kept ∙ end.0) ∙ append-nil messages),
      end.1,
    )

pub stream_then : (most : ℕ) (bytes rest left : List ℕ) (answers further : List Parts) → Cut most bytes answers rest → Stream most rest further left
    → Stream most bytes (answers ++ further) left
stream_then most bytes rest left answers further p q = record { cut = cut_then most bytes rest left answers further p q.cut; no_more = q.no_more }
