-- What the bytes begin with, and what comes after messages of ignored types.
use Rattle.std.proofs.Common.{◌≡◌, ℕ, ◌+◌, ◌^◌, ◌<◌, ◌≤◌, Bool, cond, List, [], ◌∷◌, ◌++◌, length, take, drop, None, Ok, Err, refl, sym, ap, subst, ◌∙◌, arith, length-append, length-drop, Some, Option}
use Rattle.std.specs.Prelude.{filter}
use Rattle.std.proofs.lemmas.Bool.{le-leb, lt-leb}
use Rattle.std.proofs.lemmas.List.{length-take-le, take-append-drop, drop-append-le, drop-drop}
use Rattle.dbus_types.specs.declared.message.Message.{Message}
use Rattle.dbus_framing.specs.declared.violation.Violation.{Violation}
use Rattle.dbus_framing.specs.declared.head.Head.{Head}
use Rattle.dbus_framing.specs.declared.progress.Progress.{Progress}
use Rattle.dbus_framing.specs.declared.progress.Progress.TheVariants as steps
use Rattle.dbus_framing.specs.Messages.{Parts, parts_of, IsMessage, size_at, head_of, message_at}
use Rattle.dbus_framing.specs.declared.framer.Look.{Look}
use Rattle.dbus_framing.specs.declared.framer.Look.TheVariants as looks
use Rattle.dbus_framing.specs.declared.framer.Found.{Found}
use Rattle.dbus_framing.specs.Streams.{is_kept, Cut, Stream, Breaks, BreaksNone, early, late}
use Rattle.dbus_framing.specs.Framers.{Framing, IsKnown, IsKept, Refused, broken_in}
use Rattle.dbus_framing.specs.Looks.{SeesNothing, SeesViolation, SeesMessage, SeesBehind, seen_in, Finds}
use Rattle.dbus_framing.proofs.Heads.{head_stays, Heads, heads, size_begun}
use Rattle.dbus_framing.proofs.Readings.{message_said, is_message, IsBytes-take}
use Rattle.dbus_marshal.proofs.Taking.{IsBytes}
use Rattle.dbus_framing.proofs.Cuts.{cut_none, cut_one, cut_then, breaks_stay, breaks_none, short_begin, short_break}

-- a complete message at the start: the bytes that its head counts
pub record Front (most : ℕ) (bytes front : List ℕ) (head : Head) : Type 0 where
  pub is : front ≡ take head.size bytes
  pub fits : head.size ≤ length bytes
  pub known : head_of most bytes ≡ Ok head

-- what is known of these bytes alone
pub record Alone (most : ℕ) (front : List ℕ) (head : Head) : Type 0 where
  pub long : length front ≡ head.size
  pub begun : 16 ≤ length front
  pub known : head_of most front ≡ Ok head
  pub heads : Heads most front head

alone_at : (most : ℕ) (bytes : List ℕ) (head : Head) → head.size ≤ length bytes → head_of most bytes ≡ Ok head → Alone most (take head.size bytes) head
alone_at most bytes head fits known =
    let front = take head.size bytes in
    let long : length front ≡ head.size = length-take-le head.size bytes fits in
    let begun : 16 ≤ length front = omega (arith, long, (heads most bytes head known).size, size_begun head.endian bytes) in
    let alone : head_of most front ≡ Ok head = sym (head_stays most front (drop head.size bytes) begun) ∙ ap (head_of most) (take-append-drop head.size bytes) ∙ known in
    record { long = long; begun = begun; known = alone; heads = heads most front head alone }

pub alone : (most : ℕ) (bytes front : List ℕ) (head : Head) → Front most bytes front head → Alone most front head
alone most bytes front head it = subst (λ (f : List ℕ). Alone most f head) (sym it.is) (alone_at most bytes head it.fits it.known)

pub front_whole : (most : ℕ) (bytes front : List ℕ) (head : Head) → Front most bytes front head → length front ≡ size_at head.endian front
front_whole most bytes front head it = let a = alone most bytes front head it in a.long ∙ a.heads.size

pub sees_message : (most : ℕ) (bytes front : List ℕ) (head : Head) (message : Message) → IsBytes bytes → Front most bytes front head
    → message_at head.endian front ≡ Ok (parts_of message) → SeesMessage most bytes message
sees_message most bytes front head message small it read =
    let a = alone most bytes front head it in
    let says : message.length ≡ length front = ap (λ (p : Parts). p.size) (message_said head.endian front (parts_of message) read).says in
    let spelled : IsMessage most front (parts_of message) = is_message most front head (parts_of message) a.known a.long
    (subst (λ (f : List ℕ). IsBytes f) (sym it.is) (IsBytes-take head.size bytes small)) message.signature.checked read in
    record {
      fits = omega (arith, says, a.long, it.fits);
      spelled = subst (λ (f : List ℕ). IsMessage most f (parts_of message)) (it.is ∙ ap (λ (n : ℕ). take n bytes) (sym a.long ∙ sym says)) spelled;
    }

pub sees_violation : (most : ℕ) (bytes front : List ℕ) (head : Head) (cause : Violation) → 16 ≤ length bytes → Front most bytes front head
    → message_at head.endian front ≡ Err cause → SeesViolation most bytes cause
sees_violation most bytes front head cause begun it read =
    let breaks : Breaks most bytes cause = late head begun it.known it.fits (ap (message_at head.endian) (sym it.is) ∙ read) in
    record { no_message = breaks_none most bytes cause breaks; breaks = breaks }

pub sees_early : (most : ℕ) (bytes : List ℕ) (cause : Violation) → 16 ≤ length bytes → head_of most bytes ≡ Err cause → SeesViolation most bytes cause
sees_early most bytes cause begun broken = let breaks : Breaks most bytes cause = early begun broken in
    record { no_message = breaks_none most bytes cause breaks; breaks = breaks }

pub sees_begun : (most : ℕ) (bytes : List ℕ) (head : Head) → 16 ≤ length bytes → head_of most bytes ≡ Ok head → length bytes < head.size
    → SeesNothing most bytes (steps.Begun head)
sees_begun most bytes head begun known short = record {
  no_message = short_begin most bytes head known short;
  no_violation = short_break most bytes head known short;
  known = (begun, known);
  unbroken = refl;
}

-- what is known stays, whatever follows
pub known_more : (most : ℕ) (rest piece : List ℕ) (progress : Progress) → IsKnown most rest progress → IsKnown most (rest ++ piece) progress
known_more most rest piece steps.Nothing known = tt
known_more most rest piece (steps.Begun head) known = (omega (arith, known.0, length-append rest piece), head_stays most rest piece known.0 ∙ known.1)
known_more most rest piece (steps.Broken cause) known = breaks_stay most rest piece cause known

pub known_behind : (most start : ℕ) (fed piece : List ℕ) (progress : Progress) → start ≤ length fed → IsKnown most (drop start fed) progress
    → IsKnown most (drop start (fed ++ piece)) progress
known_behind most start fed piece progress within known =
    subst (λ (rest : List ℕ). IsKnown most rest progress) (sym (drop-append-le start fed piece within)) (known_more most (drop start fed) piece progress known)

-- ---- one message further on

further : (most : ℕ) (bytes left : List ℕ) (message : Message) → Cut most bytes [] left → SeesMessage most left message
    → Cut most bytes (filter is_kept (parts_of message ∷ [])) (drop message.length left)
further most bytes left message cut sees =
    cut_then most bytes left (drop message.length left) [] (filter is_kept (parts_of message ∷ [])) cut
    (cut_one most left (take message.length left) (drop message.length left) (parts_of message) sees.spelled (sym (take-append-drop message.length left)))

pub kept_further : (most : ℕ) (bytes left : List ℕ) (message : Message) → Cut most bytes [] left → SeesMessage most left message → message.kind ≤ 4
    → Cut most bytes (parts_of message ∷ []) (drop message.length left)
kept_further most bytes left message cut sees kept =
    subst (λ (b : Bool). Cut most bytes (cond b (parts_of message ∷ []) []) (drop message.length left)) (le-leb _ _ kept) (further most bytes left message cut sees)

pub ignored_further : (most : ℕ) (bytes left : List ℕ) (message : Message) → Cut most bytes [] left → SeesMessage most left message → 4 < message.kind
    → Cut most bytes [] (drop message.length left)
ignored_further most bytes left message cut sees ignored =
    subst (λ (b : Bool). Cut most bytes (cond b (parts_of message ∷ []) []) (drop message.length left)) (lt-leb _ _ ignored) (further most bytes left message cut sees)

pub some_taken : (most : ℕ) (bytes : List ℕ) (message : Message) → SeesMessage most bytes message → 16 ≤ message.length
some_taken most bytes message sees = omega (arith, sees.spelled.begun, length-take-le message.length bytes sees.fits)

-- what is found when a message is returned
pub finds_kept : (most taken : ℕ) (bytes left : List ℕ) (message : Message) → taken ≤ length bytes → left ≡ drop taken bytes → Cut most bytes [] left
    → SeesMessage most left message → message.kind ≤ 4 → Finds most bytes (record { taken = taken + message.length; look = looks.Whole message })
finds_kept most taken bytes left message within is cut sees kept =
    let behind : drop message.length left ≡ drop (taken + message.length) bytes = ap (drop message.length) is ∙ drop-drop message.length taken bytes in
    record {
      fits = omega (arith, sees.fits, ap length is, length-drop taken bytes);
      cut = subst (λ (rest : List ℕ). Cut most bytes (parts_of message ∷ []) rest) behind (kept_further most bytes left message cut sees kept);
      sees = tt;
    }

-- where the next look begins
pub record GoesOn (most taken : ℕ) (bytes behind : List ℕ) : Type 0 where
  pub fits : taken ≤ length bytes
  pub left : behind ≡ drop taken bytes
  pub cut : Cut most bytes [] behind

pub goes_on : (most taken : ℕ) (bytes left behind : List ℕ) (message : Message) → taken ≤ length bytes → left ≡ drop taken bytes → Cut most bytes [] left
    → SeesMessage most left message → 4 < message.kind → behind ≡ drop message.length left → GoesOn most (taken + message.length) bytes behind
goes_on most taken bytes left behind message within is cut sees ignored next =
    record {
      fits = omega (arith, sees.fits, ap length is, length-drop taken bytes);
      left = next ∙ ap (drop message.length) is ∙ drop-drop message.length taken bytes;
      cut = subst (λ (rest : List ℕ). Cut most bytes [] rest) (sym next) (ignored_further most bytes left message cut sees ignored);
    }

-- ---- the framer

-- what stays true when more is fed
pub kept_more : (most start : ℕ) (fed fresh piece : List ℕ) (progress : Progress) → IsKept most fed start progress → fresh ≡ fed ++ piece
    → IsKept most fresh start progress
kept_more most start fed fresh piece progress kept is =
    subst (λ (f : List ℕ). IsKept most f start progress) (sym is) (record {
      few = omega (arith, kept.few, length-append fed piece);
      limited = kept.limited;
      known = known_behind most start fed piece progress (omega (arith, kept.few)) kept.known;
    })

-- the bytes that messages consumed are at most half of those held, and the others are those that no message consumed
pub record Moved (fed moved : List ℕ) (taken now : ℕ) : Type 0 where
  pub rest : drop now moved ≡ drop taken fed
  pub few : now + now ≤ length moved

-- what contracts see of a framer's parts
abbrev pub framing : ℕ → List ℕ → ℕ → Progress → Framing
framing most fed start progress = record { most = most; rest = drop start fed; broken = broken_in progress; held = length fed }

-- a violation that was found is returned again
pub refused_again : (most start : ℕ) (fed : List ℕ) (progress : Progress) (cause : Violation) (shown : Framing) → IsKept most fed start progress
    → progress ≡ steps.Broken cause → framing most fed start progress ≡ shown → Refused shown cause shown
refused_again most start fed progress cause shown kept is view =
    subst (λ (f : Framing). Refused f cause f) view
    (let breaks : Breaks most (drop start fed) cause = subst (λ (p : Progress). IsKnown most (drop start fed) p) is kept.known in
    record {
      stream = record { cut = cut_none most (drop start fed); no_more = breaks_none most (drop start fed) cause breaks };
      breaks = breaks;
      kept = ap broken_in is;
      most = refl;
    })

-- what was found after the bytes that messages consumed
pub record FoundIn (most start : ℕ) (fed rest : List ℕ) (found : Found) (look : Look) : Type 0 where
  pub within : start ≤ length fed
  pub rest_is : rest ≡ drop start fed
  pub finds : Finds most rest found
  pub look_is : found.look ≡ look

-- the same, seen from all bytes
pub record Behind (most start : ℕ) (fed : List ℕ) (taken : ℕ) (look : Look) : Type 0 where
  pub fits : start + taken ≤ length fed
  pub cut : Cut most (drop start fed) (seen_in look) (drop (start + taken) fed)
  pub sees : SeesBehind most (drop (start + taken) fed) look

pub behind_found : (most start : ℕ) (fed rest : List ℕ) (found : Found) (look : Look) → FoundIn most start fed rest found look → Behind most start fed found.taken look
behind_found most start fed rest found look it =
    let left : drop found.taken rest ≡ drop (start + found.taken) fed = ap (drop found.taken) it.rest_is ∙ drop-drop found.taken start fed in
    let cut : Cut most (drop start fed) (seen_in found.look) (drop (start + found.taken) fed) =
    subst (λ (bytes : List ℕ). Cut most bytes (seen_in found.look) (drop (start + found.taken) fed)) it.rest_is (subst (λ (bytes : List ℕ). Cut most rest (seen_in found.look) bytes) left it.finds.cut) in
    let sees : SeesBehind most (drop (start + found.taken) fed) found.look = subst (λ (bytes : List ℕ). SeesBehind most bytes found.look) left it.finds.sees in
    record {
      fits = omega (arith, it.finds.fits, ap length it.rest_is, length-drop start fed, it.within);
      cut = subst (λ (l : Look). Cut most (drop start fed) (seen_in l) (drop (start + found.taken) fed)) it.look_is cut;
      sees = subst (λ (l : Look). SeesBehind most (drop (start + found.taken) fed) l) it.look_is sees;
    }

pub kept_broken : (most start taken now : ℕ) (fed moved : List ℕ) (cause : Violation) → most < 2 ^ 32 → Behind most start fed taken (looks.Broken cause)
    → Moved fed moved (start + taken) now → IsKept most moved now (steps.Broken cause)
kept_broken most start taken now fed moved cause limited it move = record {
  few = move.few;
  limited = limited;
  known = subst (λ (rest : List ℕ). Breaks most rest cause) (sym move.rest) it.sees.breaks;
}

-- what is known when more bytes are awaited
pub kept_waiting : (most start taken now : ℕ) (fed moved : List ℕ) (progress : Progress) → most < 2 ^ 32 → Behind most start fed taken (looks.Waits progress)
    → Moved fed moved (start + taken) now → IsKept most moved now progress
kept_waiting most start taken now fed moved progress limited it move = record {
  few = move.few;
  limited = limited;
  known = subst (λ (rest : List ℕ). IsKnown most rest progress) (sym move.rest) it.sees.known;
}

pub refused_now : (most start taken now : ℕ) (fed moved : List ℕ) (cause : Violation) (progress : Progress) (shown : Framing)
    → Behind most start fed taken (looks.Broken cause) → Moved fed moved (start + taken) now
    → framing most fed start progress ≡ shown → Refused shown cause (framing most moved now (steps.Broken cause))
refused_now most start taken now fed moved cause progress shown it move view =
    subst (λ (f : Framing). Refused f cause (framing most moved now (steps.Broken cause))) view (record {
      stream = subst (λ (rest : List ℕ). Stream most (drop start fed) [] rest) (sym move.rest) (record { cut = it.cut; no_more = it.sees.no_message });
      breaks = subst (λ (rest : List ℕ). Breaks most rest cause) (sym move.rest) it.sees.breaks;
      kept = refl;
      most = refl;
    })

pub record Waiting (old : Framing) (left : List ℕ) : Type 0 where
  pub stream : Stream old.most old.rest [] left
  pub no_violation : BreaksNone old.most left

pub waits_now : (most start taken : ℕ) (fed left : List ℕ) (progress now : Progress) (shown : Framing) → Behind most start fed taken (looks.Waits now)
    → left ≡ drop (start + taken) fed → framing most fed start progress ≡ shown → Waiting shown left
waits_now most start taken fed left progress now shown it is view =
    subst (λ (f : Framing). Waiting f left) view (subst (λ (rest : List ℕ). Waiting (framing most fed start progress) rest) (sym is)
    (record { stream = record { cut = it.cut; no_more = it.sees.no_message }; no_violation = it.sees.no_violation }))

-- a framer without a known violation shows none
pub not_broken : (most start : ℕ) (fed : List ℕ) (progress : Progress) (shown : Framing) (cause : Violation) → broken_in progress ≡ None
    → framing most fed start progress ≡ shown → shown.broken ≡ Some cause → ⊥
not_broken most start fed progress shown cause none view broken =
    let no : Option Violation = None in
    let some : Option Violation = Some cause in
    let e : no ≡ some = sym none ∙ ap (λ (f : Framing). f.broken) view ∙ broken in cc

pub unbroken : (progress : Progress) → ((cause : Violation) → progress ≡ steps.Broken cause → ⊥) → broken_in progress ≡ None
unbroken steps.Nothing ne = refl
unbroken (steps.Begun head) ne = refl
unbroken (steps.Broken cause) ne = absurd (ne cause refl)
