-- How long outputs are: their length doesn't depend on the serial, a return is at most 48 bytes longer than its body, and every
-- error is short enough to wait for a connection.
use Rattle.std.proofs.Common.{◌≡◌, ℕ, ◌+◌, ◌%◌, ◌^◌, ◌<◌, ◌≤◌, Bool, true, false, List, [], ◌∷◌, ◌++◌, length, Some, codes, decimal, nat_le, if◌then◌else◌, refl, arith, length-append}
use Rattle.std.proofs.lemmas.Bool.{leb-true}
use Rattle.std.proofs.lemmas.Fmt.{length-decimal-le}
use Rattle.kr_base.specs.declared.ids.PromptId.{PromptId}
use Rattle.kr_base.specs.declared.ids.SessionId.{SessionId}
use Rattle.dbus_types.specs.declared.endian.Endian.TheVariants.{Little}
use Rattle.dbus_types.specs.Types.{text_of}
use Rattle.dbus_types.specs.Values.{Val, ty_of}
use Rattle.dbus_marshal.specs.Limits.{array_limit}
use Rattle.dbus_marshal.specs.Wire.{number_bytes, padding, zeros}
use Rattle.dbus_marshal.specs.Spelling.{all_spelled}
use Rattle.dbus_marshal.specs.Spelling as spelling
use Rattle.dbus_marshal.specs.Putting.{padded}
use Rattle.dbus_marshal.proofs.WritingLemmas.{zeros_long}
use Rattle.dbus_framing.specs.Headers.{field_parts}
use Rattle.dbus_sending.specs.Sent.{field_value, rows_of, bare_header}
use Rattle.dbus_sending.specs.Sent as sending
use Rattle.secret_calls.specs.declared.out.Body.{Body}
use Rattle.secret_calls.specs.declared.out.Body.TheVariants as body
use Rattle.secret_calls.specs.declared.out.Out.{Out}
use Rattle.secret_calls.specs.declared.out.Out.TheVariants as out
use Rattle.secret_calls.specs.declared.out.ErrorName.{ErrorName}
use Rattle.secret_calls.specs.declared.out.ErrorName.TheVariants as name
use Rattle.secret_calls.specs.declared.serial.Serial.{Serial}
use Rattle.secret_calls.specs.declared.signal.AskKind.{AskKind}
use Rattle.secret_calls.specs.declared.signal.AskKind.TheVariants as kind
use Rattle.secret_calls.specs.declared.signal.Completion.{Completion}
use Rattle.secret_calls.specs.declared.signal.Completion.TheVariants as completion
use Rattle.secret_calls.specs.declared.signal.Signal.{Signal}
use Rattle.secret_calls.specs.declared.signal.Signal.TheVariants as signal
use Rattle.secret_calls.specs.Outs.{prompt_path, paths_value, kind_text, most_label, shown_label, signal_values, spelled_body, sent, spelled, IsSignal, HasSpelling, most_waiting}
use Rattle.secret_calls.proofs.LengthLemmas.{AtMost, AllAtMost, end-most, more-most, byte-most, word-most, long-most, text-most, path-most, signature-most, variant-most, struct-most, array-most}

-- any serial has four bytes
pub any_serial : (out : Out) (one other : ℕ) → length (spelled out one) ≡ length (spelled out other)
unfolding number_bytes
any_serial (out.Return to body) one other = refl
any_serial (out.Error to name) one other = refl
any_serial (out.Signal signal) one other = refl

-- what comes before the body of a return
abbrev head : Serial → Body → ℕ → List ℕ
head to body serial = padded 8 (all_spelled Little (sending.header_of (sent (out.Return to body) serial)) 0)

head-short : (to : Serial) (serial : ℕ) (body : Body) → length (head to body serial) ≤ 48
unfolding number_bytes
head-short to serial body.Empty = omega arith
head-short to serial _ = omega arith

pub return-short : (to : Serial) (serial : ℕ) (body : Body) → length (spelled (out.Return to body) serial) ≤ length (spelled_body body) + 48
return-short to serial body = omega (arith, length-append (head to body serial) (spelled_body body), head-short to serial body)

-- a return is short enough to wait if its body is shorter by 48 bytes
pub return-waits : (to : Serial) (serial : ℕ) (body : Body) → length (spelled_body body) + 48 ≤ most_waiting → length (spelled (out.Return to body) serial) ≤ most_waiting
return-waits to serial body small = omega (arith, return-short to serial body, small)

pub error-short : (to : Serial) (serial : ℕ) (name : ErrorName) → length (spelled (out.Error to name) serial) ≤ most_waiting
unfolding number_bytes
error-short to serial name.NotSupported = omega arith
error-short to serial _ = omega arith

-- ---- bodies without a list

digits-few : (n : ℕ) → n < 2 ^ 64 → length (decimal n) ≤ 20
digits-few n fits = length-decimal-le 20 n (omega arith) (omega (arith, fits)) fits

pub session-short : (session : SessionId) → session.0 < 2 ^ 64 → length (spelled_body (body.Session session)) ≤ 255
unfolding number_bytes
session-short session fits = omega (arith, length-append (decimal session.0 ++ 0 ∷ []) [], length-append (decimal session.0) (0 ∷ []), digits-few session.0 fits)

-- an error can be spelled
pub error-fits : (to : Serial) (name : ErrorName) → HasSpelling (out.Error to name)
error-fits to name = record { typed = tt; short = omega arith }

-- ---- signals

-- the path of a prompt
pub prompt-short : (prompt : PromptId) → prompt.0 < 2 ^ 64 → length (prompt_path prompt.0) ≤ 53
prompt-short prompt fits = omega (arith, length-append (codes "/org/freedesktop/secrets/prompt/p") (decimal prompt.0), digits-few prompt.0 fits)

-- a header field has at most this many bytes
field-most : {most code : ℕ} {v : Val} → AtMost most v → AtMost (7 + (1 + (length (text_of (ty_of v)) + 2 + most + 0))) (field_value code v)
field-most {most} {code} held = struct-most (more-most (byte-most code) (more-most (variant-most held) end-most))

-- the four fields of a signal
pub fields-most : (path interface name : List ℕ) (code : ℕ) (codes : List ℕ)
    → AllAtMost (length path + length interface + length name + length (code ∷ codes) + 70) (rows_of (record (bare_header 4 1 0) { path = Some path; interface = Some interface; member = Some name }) (code ∷ codes))
fields-most path interface name code codes =
    let sum = more-most (field-most {code = 1} (path-most path)) (more-most (field-most {code = 2} (text-most interface))
    (more-most (field-most {code = 3} (text-most name)) (more-most (field-most {code = 8} (signature-most (code ∷ codes))) end-most))) in
    record { few = λ place. omega (arith, sum.few place) }

-- what comes before the body of a signal
abbrev pub signal-head : Signal → ℕ → List ℕ
signal-head signal serial = padded 8 (all_spelled Little (sending.header_of (sent (out.Signal signal) serial)) 0)

-- a header has at most 32 bytes beside its fields
pub header-most : {most : ℕ} (message : sending.Sent) → AllAtMost most (sending.fields_of message) → (place : ℕ) → length (all_spelled Little (sending.header_of message) place) ≤ most + 32
header-most message fields place =
    let sum = more-most (byte-most 108) (more-most (byte-most message.header.kind) (more-most (byte-most message.header.flags) (more-most (byte-most 1)
    (more-most (word-most (length (all_spelled Little message.body 0))) (more-most (word-most message.header.serial) (more-most (array-most {ts = field_parts} fields) end-most)))))) in
    omega (arith, sum.few place)

ask-head : (prompt : PromptId) (round : ℕ) (kind : AskKind) (label : List ℕ) (wrong serial : ℕ) → length (signal-head (signal.Ask prompt round kind label wrong) serial) ≤ 170
ask-head prompt round kind label wrong serial =
    let message = sent (out.Signal (signal.Ask prompt round kind label wrong)) serial in
    let H = all_spelled Little (sending.header_of message) 0 in
    let fields = fields-most (codes "/org/freedesktop/secrets/agent") (codes "org.keyringd.Agent1") (codes "Ask") 111 (codes "tssu") in
    omega (arith, header-most message fields 0, length-append H (zeros (padding 8 (length H % 8))), zeros_long (padding 8 (length H % 8)))

kind-short : (kind : AskKind) → length (kind_text kind) ≤ 6
kind-short kind.Unlock = omega arith
kind-short kind.Create = omega arith
kind-short kind.Change = omega arith

-- the values of Ask are a little longer than the label
ask-values : (prompt : PromptId) (round : ℕ) (kind : AskKind) (label : List ℕ) (wrong : ℕ) → prompt.0 < 2 ^ 64
    → length (all_spelled Little (signal_values (signal.Ask prompt round kind label wrong)) 0) ≤ length label + 105
ask-values prompt round kind label wrong fits =
    let sum = more-most (path-most (prompt_path prompt.0)) (more-most (long-most round) (more-most (text-most (kind_text kind)) (more-most (text-most label) (more-most (word-most wrong) end-most)))) in
    omega (arith, prompt-short prompt fits, kind-short kind, sum.few 0)

-- Ask is short enough to wait, and can be spelled, if its label is short enough
pub ask-waits : (prompt : PromptId) (round : ℕ) (kind : AskKind) (label : List ℕ) (wrong serial : ℕ) → prompt.0 < 2 ^ 64 → length label ≤ most_label
    → length (spelled (out.Signal (signal.Ask prompt round kind label wrong)) serial) ≤ most_waiting
ask-waits prompt round kind label wrong serial fits short =
    let one = signal.Ask prompt round kind label wrong in
    omega (arith, length-append (signal-head one serial) (all_spelled Little (signal_values one) 0), ask-head prompt round kind label wrong serial, ask-values prompt round kind label wrong fits, short)

pub ask-fits : (prompt : PromptId) (round : ℕ) (kind : AskKind) (label : List ℕ) (wrong : ℕ) → IsSignal (signal.Ask prompt round kind label wrong) → length label ≤ most_label
    → HasSpelling (out.Signal (signal.Ask prompt round kind label wrong))
ask-fits prompt round kind label wrong typed short = record { typed = typed; short = omega (arith, ask-values prompt round kind label wrong typed.0, short) }

-- the label that Ask contains is short enough
pub label-short : (label : List ℕ) → length (shown_label label) ≤ most_label
label-short label =
    let pass : (b : Bool) → nat_le (length label) most_label ≡ b → length (if b then label else []) ≤ most_label =
    elim [ true ↦ λ is. leb-true (length label) most_label is | false ↦ λ is. omega arith ] in
    pass (nat_le (length label) most_label) refl

-- the body of a return with the result of a prompt
abbrev pub result_body : Completion → Body
result_body (completion.Objects objects) = body.Objects objects
result_body (completion.Object object) = body.Object object

-- the values of Completed have 8 bytes more
pub completed-values : (prompt : PromptId) (dismissed : Bool) (result : Completion)
    → length (all_spelled Little (signal_values (signal.Completed prompt dismissed result)) 0) ≡ length (spelled_body (result_body result)) + 8
unfolding number_bytes
completed-values prompt dismissed (completion.Objects objects) =
    let V = spelling.spelled Little (paths_value objects) 0 in
    omega (arith, length-append V [])
completed-values prompt dismissed (completion.Object object) = omega arith

completed-head : (prompt : PromptId) (dismissed : Bool) (result : Completion) (serial : ℕ) → prompt.0 < 2 ^ 64 → length (signal-head (signal.Completed prompt dismissed result) serial) ≤ 210
completed-head prompt dismissed result serial fits =
    let message = sent (out.Signal (signal.Completed prompt dismissed result)) serial in
    let H = all_spelled Little (sending.header_of message) 0 in
    let fields = fields-most (prompt_path prompt.0) (codes "org.freedesktop.Secret.Prompt") (codes "Completed") 98 (codes "v") in
    omega (arith, prompt-short prompt fits, header-most message fields 0, length-append H (zeros (padding 8 (length H % 8))), zeros_long (padding 8 (length H % 8)))

-- Completed is short enough to wait, and can be spelled, if the result is
pub completed-waits : (prompt : PromptId) (dismissed : Bool) (result : Completion) (serial : ℕ) → prompt.0 < 2 ^ 64 → length (spelled_body (result_body result)) + 218 ≤ most_waiting
    → length (spelled (out.Signal (signal.Completed prompt dismissed result)) serial) ≤ most_waiting
completed-waits prompt dismissed result serial fits small =
    let one = signal.Completed prompt dismissed result in
    omega (arith, length-append (signal-head one serial) (all_spelled Little (signal_values one) 0), completed-head prompt dismissed result serial fits, completed-values prompt dismissed result, small)

pub completed-fits : (prompt : PromptId) (dismissed : Bool) (result : Completion) → IsSignal (signal.Completed prompt dismissed result) → length (spelled_body (result_body result)) + 8 ≤ array_limit
    → HasSpelling (out.Signal (signal.Completed prompt dismissed result))
completed-fits prompt dismissed result typed small = record { typed = typed; short = omega (arith, completed-values prompt dismissed result, small) }
