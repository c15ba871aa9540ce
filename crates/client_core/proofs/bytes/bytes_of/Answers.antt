-- What was counted and written is the message of the call.
use Rattle.std.proofs.Common.{◌≡◌, ℕ, List, length, min, ap, ◌∙◌, arith}
use Rattle.kr_names.specs.Path.{path_text}
use Rattle.dbus_sending.specs.Sent.{spelled_message}
use Rattle.client_core.specs.Asked.{object_of, sent_with, spelled}
use Rattle.client_core.proofs.bytes.bytes_of.Goals as goal

pub returns-then-size-gt-MOST_BYTES-clause-too_large : goal.returns-then-size-gt-MOST_BYTES-clause-too_large
returns-then-size-gt-MOST_BYTES-clause-too_large c = λ _.
    let call = c.args.call.now in
    let n : ℕ = c.args.serial in
    let same : spelled_message (sent_with call c.in_ok-path.path c.as_slice.result.now n) ≡ spelled call n =
    ap (λ (p : List ℕ). spelled_message (sent_with call p c.as_slice.result.now n)) c.in_ok-path.ensures
    ∙ ap (λ (ps : List (List ℕ)). spelled_message (sent_with call (path_text (object_of call)) ps n)) (c.as_slice.ensures ∙ c.in_ok-paths.ensures) in
    let size : c.size_of-size.result ≡ min 18446744073709551615 (length (spelled call n)) = c.size_of-size.ensures ∙ ap (λ (l : List ℕ). min 18446744073709551615 (length l)) same in
    omega (arith, size, c.if-size-gt-MOST_BYTES.true)

pub returns-clause-bytes : goal.returns-clause-bytes
returns-clause-bytes c =
    let call = c.args.call.now in
    let n : ℕ = c.args.serial in
    c.in_ok-bytes.ensures
    ∙ ap (λ (p : List ℕ). spelled_message (sent_with call p c.as_slice-2.result.now n)) c.in_ok-path.ensures
    ∙ ap (λ (ps : List (List ℕ)). spelled_message (sent_with call (path_text (object_of call)) ps n)) (c.as_slice-2.ensures ∙ c.in_ok-paths.ensures)

pub returns-clause-fits : goal.returns-clause-fits
returns-clause-fits c =
    let call = c.args.call.now in
    let n : ℕ = c.args.serial in
    let same : spelled_message (sent_with call c.in_ok-path.path c.as_slice.result.now n) ≡ spelled call n =
    ap (λ (p : List ℕ). spelled_message (sent_with call p c.as_slice.result.now n)) c.in_ok-path.ensures
    ∙ ap (λ (ps : List (List ℕ)). spelled_message (sent_with call (path_text (object_of call)) ps n)) (c.as_slice.ensures ∙ c.in_ok-paths.ensures) in
    let size : c.size_of-size.result ≡ min 18446744073709551615 (length (spelled call n)) = c.size_of-size.ensures ∙ ap (λ (l : List ℕ). min 18446744073709551615 (length l)) same in
    omega (arith, size, c.if-size-gt-MOST_BYTES.false)
