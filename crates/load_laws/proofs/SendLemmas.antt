-- What the client of a load sends, as the service reads it.
use Rattle.std.proofs.Common.{◌≡◌, ℕ, zero, suc, ◌+◌, ◌*◌, ◌/◌, ◌%◌, ◌^◌, ◌<◌, ◌≤◌, ◌==◌, get_or, Bool, true, false, cond, List, [], ◌∷◌, ◌++◌, length, Ok, codes, refl, sym, ap, ◌∙◌, arith, length-append, append_assoc, append-nil, subst}
use Rattle.std.specs.List.{AllByRecursion, concat}
use Rattle.hex.specs.Hex.{encode_lower, encode_with, lower_digits}
use Rattle.dbus_auth.specs.Answers.{ok_line}
use Rattle.dbus_auth.specs.Handshake.{handshake, opened}
use Rattle.dbus_auth.proofs.HandshakeLemmas.{handshake-append}
use Rattle.dbus_auth_client.specs.Openings.{auth_line, begin_line}
use Rattle.dbus_auth_client.proofs.ServerLemmas.{begun}
use Rattle.dbus_framing.specs.Messages.{IsMessage, Parts}
use Rattle.dbus_framing.specs.Streams.{Stream}
use Rattle.dbus_framing.proofs.Cuts.{answers_begin, cut_none, cut_one, few_begin, stream_then}
use Rattle.connection_worker.specs.service_events.specs.secret_calls.specs.declared.call.Call.{Call}
use Rattle.connection_worker.specs.service_events.specs.secret_calls.specs.declared.call.Request.{Request}
use Rattle.connection_worker.specs.call_wire.specs.CallOf.{CallOf}
use Rattle.client_core.specs.Asked.{most_bytes, said, spelled}
use Rattle.client_core.specs.Askable.{CanBeAsked}
use Rattle.dbus_sending.specs.Sent.{IsSerial}
use Rattle.connection_worker.specs.service_events.specs.Single.{TimedRequest, requests_of}
use Rattle.connection_worker.specs.Arrivals.{AreRequests, FirstRequests, calls_in}
use Rattle.load_plan.specs.Answered.{behind_line}
use Rattle.load_plan.specs.Plan.{plan}
use Rattle.load_plan.specs.Sending.{conversation, sent, sent_from}
use Rattle.load_plan.proofs.PlanLemmas.{plan-length}
use Rattle.load_plan.proofs.SendingLemmas.{sent-whole}
use Rattle.load_laws.specs.Requests.{AreAsked, AreFirstAsked, said_from}
use Rattle.load_laws.proofs.AskedLemmas.{IsSmall, plan-can, plan-small}

-- ---- the handshake

-- it is open, and was answered once
pub load-opens : (uid : ℕ) (guid : List ℕ) (calls : List Call) → uid < 2 ^ 32 → handshake uid guid (conversation uid calls) ≡ record { answers = ok_line guid ∷ []; end = opened (sent_from 1 calls) }
load-opens uid guid calls fits =
    let bytes = auth_line uid ++ (begin_line ++ sent_from 1 calls) in
    handshake-append uid guid 0 [] bytes ∙ begun uid guid (sent_from 1 calls) (bytes ∷ []) fits (append-nil bytes)

-- ---- the messages

sent-is : (it : Call) (serial : ℕ) → IsSmall it → sent it serial ≡ spelled it serial
sent-is it serial small = sent-whole it serial (small serial)

-- what a client asks is a message
abbrev pub AsksMessages : Type 0
AsksMessages = (serial : ℕ) (it : Call) → CanBeAsked it → IsSerial serial → length (spelled it serial) ≤ most_bytes → IsMessage most_bytes (spelled it serial) (said it serial)

pub calls-stream : AsksMessages → (calls : List Call) (serial : ℕ) → AllByRecursion CanBeAsked calls → AllByRecursion IsSmall calls → 0 < serial → serial + length calls < 2 ^ 32
    → Stream most_bytes (sent_from serial calls) (said_from serial calls) []
calls-stream asks [] serial can small some fits = record { cut = cut_none most_bytes []; no_more = few_begin most_bytes [] (omega arith) }
calls-stream asks (it ∷ calls) serial can small some fits =
    let rest = sent_from (suc serial) calls in
    let is : sent it serial ++ rest ≡ spelled it serial ++ rest = ap (λ (l : List ℕ). l ++ rest) (sent-is it serial small.0) in
    let first =
    cut_one most_bytes (sent it serial ++ rest) (spelled it serial) rest (said it serial) (asks serial it can.0 ((λ none. omega (arith, none, some)), omega (arith, fits)) (small.0 serial)) is in
    stream_then most_bytes (sent it serial ++ rest) rest [] (said it serial ∷ []) (said_from (suc serial) calls) first (calls-stream asks calls (suc serial) can.1 small.1 (omega arith) (omega (arith, fits)))

-- they are few bytes
pub calls-few : (calls : List Call) (serial : ℕ) → AllByRecursion IsSmall calls → length (sent_from serial calls) ≤ 1048576 * length calls
calls-few [] serial small = omega arith
calls-few (it ∷ calls) serial small =
    let rest = sent_from (suc serial) calls in
    let first = ap (λ (l : List ℕ). length l) (sent-is it serial small.0) in
    omega (arith, length-append (sent it serial) rest, first, small.0 serial, calls-few calls (suc serial) small.1)

-- ---- the requests

-- the service reads what a client asks
abbrev pub ReadsCalls : Type 0
ReadsCalls =
    (serial : ℕ) (call : Call) (request : Request) → CanBeAsked call → CallOf (said call serial) request
    → (request.call ≡ Ok call) × (request.serial.number ≡ serial) × (request.wants_reply ≡ true) × (request.length ≡ length (spelled call serial))

pub requests-are : ReadsCalls → (calls : List Call) (asked : List TimedRequest) (serial : ℕ) → AllByRecursion CanBeAsked calls → AreRequests (calls_in (said_from serial calls)) (requests_of asked) → AreAsked serial calls asked
requests-are reads [] [] serial can are = tt
requests-are reads [] (a ∷ more) serial can are = absurd are
requests-are reads (it ∷ calls) [] serial can are = absurd are
requests-are reads (it ∷ calls) (a ∷ more) serial can are =
    let is = reads serial it a.request can.0 are.0 in
    (record { call_is = is.0; serial_is = is.1; wants = is.2 }, requests-are reads calls more (suc serial) can.1 are.1)

-- the heads of two lists that are the same
same-head : (one other : Parts) (ones others : List Parts) → one ∷ ones ≡ other ∷ others → one ≡ other
same-head one other ones others e = cc

same-rest : (one other : Parts) (ones others : List Parts) → one ∷ ones ≡ other ∷ others → ones ≡ others
same-rest one other ones others e = cc

-- the requests of the first messages are those of the first calls
first-are : ReadsCalls → (calls : List Call) (messages further : List Parts) (asked : List TimedRequest) (more : List Request) (serial : ℕ) → AllByRecursion CanBeAsked calls
    → said_from serial calls ≡ messages ++ further → AreRequests (calls_in messages) (requests_of asked ++ more) → AreFirstAsked serial calls asked
first-are reads calls messages further [] more serial can same are = tt
first-are reads calls [] further (a ∷ rest) more serial can same are = absurd are
first-are reads [] (parts ∷ messages) further (a ∷ rest) more serial can same are = absurd (let no : [] ≡ parts ∷ (messages ++ further) = same in cc)
first-are reads (it ∷ calls) (parts ∷ messages) further (a ∷ rest) more serial can same are =
    let here : parts ≡ said it serial = sym (same-head (said it serial) parts (said_from (suc serial) calls) (messages ++ further) same) in
    let turned = subst (λ (p : Parts). AreRequests (calls_in (p ∷ messages)) (a.request ∷ (requests_of rest ++ more))) here are in
    let is = reads serial it a.request can.0 turned.0 in (
      record { call_is = is.0; serial_is = is.1; wants = is.2 },
      first-are reads calls messages further rest more (suc serial) can.1 (same-rest (said it serial) parts (said_from (suc serial) calls) (messages ++ further) same) turned.1,
    )

-- ---- a whole load

pub load-stream : AsksMessages → (items seed : ℕ) → items ≤ 1000 → Stream most_bytes (sent_from 1 (plan items seed)) (said_from 1 (plan items seed)) []
load-stream asks items seed few = calls-stream asks (plan items seed) 1 (plan-can items seed few) (plan-small items seed few) (omega arith) (omega (arith, few, plan-length items seed))

-- the requests of the first messages of its bytes
pub load-first : AsksMessages → ReadsCalls → (items seed : ℕ) (asked : List TimedRequest) → items ≤ 1000 → FirstRequests most_bytes (sent_from 1 (plan items seed)) (requests_of asked)
    → AreFirstAsked 1 (plan items seed) asked
load-first asks reads items seed asked few first =
    let begun = answers_begin most_bytes (sent_from 1 (plan items seed)) first.rest [] first.messages (said_from 1 (plan items seed)) first.cut (load-stream asks items seed few) in
    first-are reads (plan items seed) first.messages begun.0 asked first.more 1 (plan-can items seed few) begun.1 first.are

pub load-few : (items seed : ℕ) → items ≤ 1000 → length (sent_from 1 (plan items seed)) ≤ 2112880640
load-few items seed few = omega (arith, few, plan-length items seed, calls-few (plan items seed) 1 (plan-small items seed few))

pub load-requests : ReadsCalls → (items seed : ℕ) (asked : List TimedRequest) → items ≤ 1000 → AreRequests (calls_in (said_from 1 (plan items seed))) (requests_of asked) → AreAsked 1 (plan items seed) asked
load-requests reads items seed asked few are = requests-are reads (plan items seed) asked 1 (plan-can items seed few) are

-- ---- the answer to the handshake

-- a byte doesn't end a line
abbrev IsInLine : ℕ → Type 0
IsInLine byte = (byte == 10) ≡ false

line-over : (front rest : List ℕ) → AllByRecursion IsInLine front → behind_line (front ++ 10 ∷ rest) ≡ rest
line-over [] rest other = refl
line-over (byte ∷ front) rest other = ap (λ (b : Bool). cond b (front ++ 10 ∷ rest) (behind_line (front ++ 10 ∷ rest))) other.0 ∙ line-over front rest other.1

digit-in : (table : List ℕ) (i : ℕ) → AllByRecursion IsInLine table → IsInLine (get_or table i 0)
digit-in [] i all = refl
digit-in (byte ∷ table) zero all = all.0
digit-in (byte ∷ table) (suc i) all = digit-in table i all.1

digits-in : AllByRecursion IsInLine lower_digits
digits-in = (refl, (refl, (refl, (refl, (refl, (refl, (refl, (refl, (refl, (refl, (refl, (refl, (refl, (refl, (refl, (refl, tt))))))))))))))))

hex-in : (bytes : List ℕ) → AllByRecursion IsInLine (encode_lower bytes)
unfolding encode_with
hex-in [] = tt
hex-in (byte ∷ bytes) = (digit-in lower_digits (byte / 16) digits-in, (digit-in lower_digits (byte % 16) digits-in, hex-in bytes))

in-append : (one other : List ℕ) → AllByRecursion IsInLine one → AllByRecursion IsInLine other → AllByRecursion IsInLine (one ++ other)
in-append [] other first second = second
in-append (byte ∷ one) other first second = (first.0, in-append one other first.1 second)

parted : (hex rest : List ℕ) → ok_line hex ++ rest ≡ (codes "OK " ++ (hex ++ 13 ∷ [])) ++ 10 ∷ rest
parted hex rest =
    let whole : ok_line hex ≡ codes "OK " ++ (hex ++ 13 ∷ 10 ∷ []) = refl in
    ap (λ (l : List ℕ). l ++ rest) whole ∙ ap (λ (l : List ℕ). codes "OK " ++ l) (append_assoc hex (13 ∷ 10 ∷ []) rest ∙ sym (append_assoc hex (13 ∷ []) (10 ∷ rest)))

-- what follows the answer to the handshake
pub answer-over : (bytes rest : List ℕ) → behind_line (concat (ok_line (encode_lower bytes) ∷ []) ++ rest) ≡ rest
answer-over bytes rest =
    let hex = encode_lower bytes in
    let front = codes "OK " ++ (hex ++ 13 ∷ []) in
    let line : concat (ok_line hex ∷ []) ++ rest ≡ front ++ 10 ∷ rest =
    ap (λ (l : List ℕ). l ++ rest) (append-nil (ok_line hex)) ∙ parted hex rest in
    ap behind_line line ∙ line-over front rest (in-append (codes "OK ") (hex ++ 13 ∷ []) (refl, (refl, (refl, tt))) (in-append hex (13 ∷ []) (hex-in bytes) (refl, tt)))
